use Rattle.std.proofs.Common.{ℕ, ◌<◌}
use Rattle.std.specs.List.{Contains}
use Rattle.graphql_merging.specs.declared.table.WrittenField.{WrittenField}
use Rattle.graphql_bundles.specs.Groups.{fields_in}
use Rattle.graphql_rules_merging.specs.Classes.{IsNumbered}
use Rattle.graphql_rules_merging.proofs.classes.are_right.Given as goal

-- the sets so far
abbrev pub invariant-loop-set : goal.invariant-loop-set
invariant-loop-set g l = (p : ℕ) (f : WrittenField g.row.S.Denot g.row.C.Denot) → p < l.set-index → Contains (fields_in l.table p) f
    → IsNumbered g.S.PartialEq.eq l.schema.types l.draft f
