-- Selection sets whose selections stand under known types, and whose fields have arguments of
-- distinct names (GraphQL October 2021, 5.3.1 Field Selections, 5.4.2 Argument Uniqueness, 5.5.1.2
-- Fragment Spread Type Existence).
use Rattle.std.specs.Prelude.{List, [], ◌∷◌, map, Some, None}
use Rattle.std.specs.List.{IsDistinct}
use Rattle.std.specs.Str.{bytes_eq}
use Rattle.graphql_schema.specs.declared.meta.MetaType.{MetaType}
use Rattle.graphql_tree.specs.Arguments.{Argument}
use Rattle.graphql_written_out.specs.Trees.{Head, Tree, none, field, inline}
use Rattle.graphql_merging.specs.Members.{Scope, inside, scope_of}
use Rattle.graphql_merging.specs.Sets.{Set}

-- no two of these arguments have one name
abbrev pub AreDistinct : {S : Type 0} → List (Argument S) → Type 0
AreDistinct arguments = IsDistinct bytes_eq (map (λ a. a.0.item) arguments)

abbrev pub HasDistinctArguments : {S : Type 0} → Head S → Type 0
HasDistinctArguments head = AreDistinct head.arguments

module _ {S C : Type 0} (types : List (MetaType S C)) where
  -- each selection stands under a known type, and each field's arguments have distinct names
  abbrev pub IsTyped : Scope S C → Tree S → Type 0
  IsTyped scope none = Unit {0}
  IsTyped None (field head directives below rest) = ⊥
  IsTyped (Some parent) (field head directives below rest) =
      HasDistinctArguments head × IsTyped (scope_of types parent head.name) below
      × IsTyped (Some parent) rest
  IsTyped None (inline on directives below rest) = ⊥
  IsTyped (Some parent) (inline on directives below rest) =
      IsTyped (inside types (Some parent) on) below × IsTyped (Some parent) rest

  abbrev pub AreTyped : List (Set S C) → Type 0
  AreTyped [] = Unit {0}
  AreTyped (s ∷ sets) = IsTyped s.scope s.tree × AreTyped sets
