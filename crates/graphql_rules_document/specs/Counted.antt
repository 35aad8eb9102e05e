-- Spreads that count: those that stand where the type around them is known (GraphQL October 2021,
-- 5.3.1 Field Selections, 5.5.1.2 Fragment Spread Type Existence).
use Rattle.std.specs.Prelude.{◌≡◌, List, Some, IsSome}
use Rattle.std.specs.List.{Contains}
use Rattle.graphql_names.specs.Names.{Bytes}
use Rattle.graphql_values.specs.InputValues.{Placed}
use Rattle.graphql_schema.specs.declared.meta.field.Field.{Field}
use Rattle.graphql_schema.specs.declared.meta.MetaType.{MetaType}
use Rattle.graphql_schema.specs.Declarations.{Declarations}
use Rattle.graphql_occurrences.specs.DeclaredLookups.{field_in, known}
use Rattle.graphql_occurrences.specs.Parts.{Part, FieldPart, SpreadPart, AField, ASpread, Condition}

module _ {S C : Type 0} where
  -- the name is spread by one of the parts
  abbrev pub IsSpread : List (Part S C) → Bytes → Type 0
  IsSpread parts name = (s : SpreadPart S C) × Contains parts (ASpread s) × (s.name.item ≡ name)

module _ {S C : Type 0} (schema : Declarations S C) where
  -- each field among the parts is declared, and each condition names a type
  pub record AreKnown (parts : List (Part S C)) : Type 0 where
    pub fields : (f : FieldPart S C) → Contains parts (AField f) → IsSome f.declared
    pub conditions : (n : Placed Bytes) → Contains parts (Condition n)
        → IsSome (known schema n.item)

  -- the types of all fields are types of the schema
  abbrev pub FieldTypesAreKnown : Type 0
  FieldTypesAreKnown = (m : MetaType S C) (name : Bytes) (f : Field S) → Contains schema.types m
      → field_in m name ≡ Some f → IsSome (known schema f.field_type.name)
