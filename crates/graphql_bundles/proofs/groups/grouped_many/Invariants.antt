use Rattle.std.proofs.Common.{◌≡◌, map, take}
use Rattle.std.specs.List.{IsDistinct}
use Rattle.std.specs.Str.{bytes_eq}
use Rattle.graphql_bundles.specs.Counted.{fields_of_groups}
use Rattle.graphql_bundles.specs.Groups.{IsGrouped}
use Rattle.graphql_bundles.proofs.groups.grouped_many.Given as goal

abbrev pub invariant-loop-field : goal.invariant-loop-field
invariant-loop-field g l = record {
  whole : fields_of_groups l.groups ≡ l.field-index;
  keys : l.keys.keys ≡ map (λ h. h.0) l.groups;
  distinct : IsDistinct bytes_eq (map (λ h. h.0) l.groups);
  grouped : IsGrouped (take l.field-index l.fields) l.groups;
}
