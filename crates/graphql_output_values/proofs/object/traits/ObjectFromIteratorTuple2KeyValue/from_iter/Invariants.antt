use Rattle.std.proofs.Common.{◌≡◌, []}
use Rattle.graphql_output_values.specs.Objects.{with_fields}
use Rattle.graphql_output_values.proofs.object.traits.ObjectFromIteratorTuple2KeyValue.from_iter.Given as goal

abbrev pub invariant-loop-pair : goal.invariant-loop-pair
invariant-loop-pair g l = l.object.fields ≡ with_fields [] l.yielded
