-- References to types that are made of others (GraphQL October 2021, 2.11 Type References, 3.11
-- List, 3.12 Non-Null).
use Rattle.std.specs.Prelude.{◌++◌, ℕ, [], ◌∷◌, Option}
use Rattle.graphql_names.specs.TypeReference.{nullable}
use Rattle.graphql_names.specs.declared.type_modifier.TypeModifier.TheVariants as modifier
use Rattle.graphql_schema.specs.Types.{TypeOf}

-- lists of a type, of so many items where that is known, without `null` beside them
abbrev pub list_of : TypeOf → Option ℕ → TypeOf
list_of items size = record {
  name = items.name;
  modifiers = items.modifiers ++ modifier.List size ∷ modifier.NonNull ∷ [];
}

-- the same type with `null`
abbrev pub with_null : TypeOf → TypeOf
with_null other = record { name = other.name; modifiers = nullable other.modifiers }
