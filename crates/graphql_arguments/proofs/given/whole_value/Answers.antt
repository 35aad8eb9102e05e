use Rattle.std.proofs.Common.{sym, ◌∙◌}
use Rattle.graphql_written_out.specs.FinalVariables.{value_in}
use Rattle.graphql_arguments.proofs.WholeValues.{stays_whole}
use Rattle.graphql_arguments.proofs.given.whole_value.Goals as goal

pub returns-then-is_empty : goal.returns-then-is_empty
returns-then-is_empty g c =
    sym (stays_whole (value_in c.args.variables.now) c.args.literal.now (sym c.in_ok-referenced_variables.ensures ∙ c.is_empty-2.ensures.0 c.if-is_empty.true))
