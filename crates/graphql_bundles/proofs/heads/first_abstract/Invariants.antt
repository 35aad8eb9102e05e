use Rattle.std.proofs.Common.{◌≡◌, false, not, take}
use Rattle.std.specs.List.{Contains}
use Rattle.graphql_schema.specs.Lookups.{is_object}
use Rattle.graphql_merging.specs.declared.table.WrittenField.{WrittenField}
use Rattle.graphql_bundles.proofs.heads.first_abstract.Given as goal

abbrev pub invariant-loop-place : goal.invariant-loop-place
invariant-loop-place g l = (f : WrittenField g.row.S.Denot g.row.C.Denot) → Contains (take l.place l.group) f → not (is_object f.selected.parent.now) ≡ false
