-- A field of introspection, `__schema` or `__type` (GraphQL October 2021, 4.2 Schema
-- Introspection).
use Rattle.std.specs.Prelude.{[], ◌∷◌, ◌||◌, Bool, codes}
use Rattle.std.specs.Str.{bytes_eq}
use Rattle.graphql_names.specs.Names.{Bytes}
use Rattle.graphql_occurrences.specs.Parts.{AField}
use Rattle.graphql_rule_errors.specs.Places.{error_if}
use Rattle.graphql_visitors.specs.Rules.{Rule}

-- a field that tells of the schema (4.1 Schema Introspection)
abbrev pub introspects : Bytes → Bool
introspects name = bytes_eq name (codes "__schema") || bytes_eq name (codes "__type")

module _ {S C : Type 0} where
  -- at the field
  abbrev pub disable_introspection_faults : Rule S C
  disable_introspection_faults subject (AField f) = error_if (introspects f.name) (f.place ∷ [])
  disable_introspection_faults subject _ = []
