-- The wraps of two types, the outermost first.
use Rattle.std.specs.Prelude.{List, [], ◌∷◌, None}
use Rattle.graphql_names.specs.declared.type_modifier.TypeModifier.{TypeModifier}
use Rattle.graphql_names.specs.declared.type_modifier.TypeModifier.TheVariants as modifier

-- of `[T!]!`
abbrev pub without_null : List TypeModifier
without_null = modifier.NonNull ∷ modifier.List None ∷ modifier.NonNull ∷ []

-- of `[T]`
abbrev pub list_with_null : List TypeModifier
list_with_null = modifier.List None ∷ []
