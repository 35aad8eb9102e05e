use Rattle.std.proofs.Common.{◌≡◌, drop}
use Rattle.std.specs.List.{list_any}
use Rattle.graphql_written_out.specs.FinalVariables.{value_in}
use Rattle.graphql_written_out.specs.Conditions.{leaves_out}
use Rattle.graphql_written_out.proofs.conditions.one_leaves_out.Given as goal

abbrev pub invariant-loop-directive : goal.invariant-loop-directive
invariant-loop-directive g l =
    let leaves = leaves_out g.S.ScalarValue.answer (value_in l.variables) in
    list_any (λ d. leaves d.item) l.directives ≡ list_any (λ d. leaves d.item) (drop l.directive-index l.directives)
