-- Which type references can be read from what they are displayed as (GraphQL October 2021, 2.11
-- Type References).
use Rattle.std.specs.Prelude.{Bool, true, false, Some, None, List, [], ◌∷◌}
use Rattle.graphql_text.specs.Grammar.{IsName}
use Rattle.graphql_names.specs.declared.type_modifier.TypeModifier.{TypeModifier}
use Rattle.graphql_names.specs.declared.type_modifier.TypeModifier.TheVariants as m
use Rattle.graphql_value_syntax.specs.ReadTypes.{TypeRef}

-- These wraps, the innermost first, can stand around a type, which keeps null out or not: no `!`
-- behind another one, and no list of an expected length, which is not written.
abbrev pub CanWrap : Bool → List TypeModifier → Type 0
CanWrap is_non_null [] = Unit {0}
CanWrap true (m.NonNull ∷ ms) = ⊥
CanWrap false (m.NonNull ∷ ms) = CanWrap true ms
CanWrap is_non_null (m.List None ∷ ms) = CanWrap false ms
CanWrap is_non_null (m.List (Some size) ∷ ms) = ⊥

pub record IsWritableType (t : TypeRef) : Type 0 where
  pub name : IsName t.name
  pub wraps : CanWrap false t.modifiers
