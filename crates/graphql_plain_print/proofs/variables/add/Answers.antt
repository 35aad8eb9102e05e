use Rattle.graphql_plain_print.proofs.NameLemmas.{same-put}
use Rattle.graphql_plain_print.proofs.variables.add.Goals as goal

pub returns : goal.returns
returns c = same-put c.args.name c.args.used.now.keys c.insert.new.self.keys c.in_ok-insert.field-0 c.in_ok-insert.ensures.added c.in_ok-insert.ensures.keys
