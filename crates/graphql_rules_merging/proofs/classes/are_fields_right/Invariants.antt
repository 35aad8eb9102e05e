use Rattle.std.proofs.Common.{take}
use Rattle.std.specs.List.{Contains}
use Rattle.graphql_merging.specs.declared.table.WrittenField.{WrittenField}
use Rattle.graphql_rules_merging.specs.Classes.{IsNumbered}
use Rattle.graphql_rules_merging.proofs.classes.are_fields_right.Given as goal

-- the fields so far
abbrev pub invariant-loop-field : goal.invariant-loop-field
invariant-loop-field g l = (f : WrittenField g.row.S.Denot g.row.C.Denot) → Contains (take l.field-index l.fields) f
    → IsNumbered g.S.PartialEq.eq l.schema.types l.draft f
