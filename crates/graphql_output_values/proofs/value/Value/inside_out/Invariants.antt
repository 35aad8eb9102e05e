use Rattle.std.proofs.Common.{◌≡◌, ◌+◌}
use Rattle.graphql_output_values.specs.Counts.{value_count}
use Rattle.graphql_output_values.proofs.value.Value.inside_out.Given as goal

-- no value is lost
abbrev pub invariant-inwards : goal.invariant-inwards
invariant-inwards g l = value_count l.self + value_count l.around ≡ value_count l.fn.self + value_count l.fn.rest

abbrev pub decreases-inwards : goal.decreases-inwards
decreases-inwards g l = value_count l.self
