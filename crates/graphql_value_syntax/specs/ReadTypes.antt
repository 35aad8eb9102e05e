-- How type references are read (GraphQL October 2021, 2.11 Type References).
use Rattle.std.specs.Prelude.{ℕ, zero, suc, List, [], ◌∷◌, ◌++◌, None}
use Rattle.graphql_names.specs.declared.type_modifier.TypeModifier.{TypeModifier}
use Rattle.graphql_names.specs.declared.type_modifier.TypeModifier.TheVariants as m
use Rattle.graphql_names.specs.declared.type_reference.Type as types
use Rattle.graphql_grammar.specs.declared.kind.Kind.TheVariants as k
use Rattle.graphql_grammar.specs.Kinds.{only}
use Rattle.graphql_grammar.specs.Input.{At, Parser, ◌>>=◌, ◌>>◌, pure, refuse, left}
use Rattle.graphql_grammar.specs.Steps.{when, expect, name, located}

-- a reference to a type: its name, and its wraps
abbrev pub TypeRef : Type 0
TypeRef = types.Type (List ℕ) (List TypeModifier)

-- the type of a name
abbrev pub plain : List ℕ → TypeRef
plain n = record { name = n; modifiers = [] }

-- what wraps a type comes last
abbrev pub with_wrap : TypeModifier → TypeRef → TypeRef
with_wrap w t = record { name = t.name; modifiers = t.modifiers ++ w ∷ [] }

abbrev pub list_type : At TypeRef → TypeRef
list_type t = with_wrap (m.List None) t.item

module _ (inner : Parser (At TypeRef)) where
  -- a name, or a list of a type
  abbrev pub nullable_type : Parser TypeRef
  nullable_type = when (only k.BracketOpen)
      (do expect k.BracketOpen; t ← inner; expect k.BracketClose; pure (list_type t))
      (do n ← name; pure (plain n))

  -- a type, with a mark if no null is among its values
  unfoldable pub bare_type : Parser TypeRef
  bare_type = do
    t ← nullable_type
    when (only k.ExclamationMark) (do expect k.ExclamationMark; pure (with_wrap m.NonNull t))
        (pure t)

unfoldable pub type_from : ℕ → Parser (At TypeRef)
type_from zero = refuse
type_from (suc n) = located (bare_type (type_from n))

-- each level takes a token, so the count of those that are left is enough
unfoldable pub type_ref : Parser (At TypeRef)
type_ref = λ i. type_from (suc (left i)) i
