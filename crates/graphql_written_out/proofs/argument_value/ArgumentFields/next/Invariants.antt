use Rattle.std.proofs.Common.{◌≡◌, length}
use Rattle.graphql_written_out.specs.Told.{fields_told}
use Rattle.graphql_written_out.proofs.argument_value.ArgumentFields.next.Given as goal

abbrev pub invariant-fields : goal.invariant-fields
invariant-fields g l = fields_told l.self ≡ fields_told l.initial.self

abbrev pub decreases-fields : goal.decreases-fields
decreases-fields g l = length l.self.fields.now
