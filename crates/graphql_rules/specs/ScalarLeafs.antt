-- A field of a leaf type with a selection set, or of a composite type without one (GraphQL October
-- 2021, 5.3.3 Leaf Field Selections).
use Rattle.std.specs.Prelude.{[], ◌∷◌, ◌||◌, Bool, if◌then◌else◌}
use Rattle.graphql_schema.specs.declared.meta.MetaType.{MetaType}
use Rattle.graphql_names.specs.Names.{passes}
use Rattle.graphql_occurrences.specs.Lookups.{field_type, referred}
use Rattle.graphql_occurrences.specs.Parts.{AField}
use Rattle.graphql_rule_errors.specs.Places.{error_if}
use Rattle.graphql_schema.specs.Faults.{is_composite}
use Rattle.graphql_schema.specs.Lookups.{is_scalar, is_enum}
use Rattle.graphql_visitors.specs.Rules.{Rule}

module _ {S C : Type 0} where
  abbrev pub is_leaf : MetaType S C → Bool
  is_leaf m = is_scalar m || is_enum m

  -- a field of the type has no set where it needs one, or has one where it may not
  abbrev pub mistakes_set : Bool → MetaType S C → Bool
  mistakes_set has_set m = if has_set then is_leaf m else is_composite m

  -- at the field, where its type is known
  abbrev pub scalar_leafs_faults : Rule S C
  scalar_leafs_faults subject (AField f) =
      error_if (passes (mistakes_set f.has_set) (referred subject.schema (field_type f.declared)))
      (f.place ∷ [])
  scalar_leafs_faults subject _ = []
