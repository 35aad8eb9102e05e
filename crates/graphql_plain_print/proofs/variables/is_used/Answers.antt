use Rattle.std.proofs.Common.{◌∙◌, ap}
use Rattle.graphql_names.specs.Names.{is_one_of}
use Rattle.graphql_plain_print.proofs.variables.is_used.Goals as goal

pub returns : goal.returns
returns c = c.contains.ensures ∙ ap (is_one_of c.args.used.now.keys) c.new.ensures
