-- Selections, production by production (GraphQL October 2021, 2.4 Selection Sets, 2.5 Fields, 2.8
-- Fragments).
use Rattle.std.specs.Prelude.{◌≡◌, ℕ, Bool, false, List, [], ◌∷◌, ◌++◌, Option, Some, None, Result}
use Rattle.graphql_text.specs.declared.position.Span.{Span}
use Rattle.graphql_text.specs.declared.token.ScalarToken.{ScalarToken}
use Rattle.graphql_text.specs.declared.parse_error.ParseError.{ParseError}
use Rattle.graphql_tree.specs.declared.selection.Field.{Field}
use Rattle.graphql_tree.specs.declared.selection.FragmentSpread.{FragmentSpread}
use Rattle.graphql_tree.specs.declared.selection.InlineFragment.{InlineFragment}
use Rattle.graphql_tree.specs.declared.selection.Selection.{Selection}
use Rattle.graphql_tree.specs.declared.selection.Selection.TheVariants as s
use Rattle.graphql_grammar.specs.declared.kind.Kind.TheVariants as k
use Rattle.graphql_grammar.specs.Kinds.{fragment_names}
use Rattle.graphql_grammar.specs.Input.{At, Located}
use Rattle.graphql_grammar.specs.Steps.{name_of}
use Rattle.graphql_grammar.specs.Relations.{span_of, TokenOf, Nothing, Then, Made, Placed, OptionOf}
use Rattle.graphql_grammar.specs.Relations.{EitherOf}
use Rattle.graphql_language.specs.ReadSelections.{AliasedName}
use Rattle.graphql_value_syntax.specs.Values.{Is}
use Rattle.graphql_value_syntax.specs.Directives.{Sign, Named, ArgumentsOf, DirectivesOf}

-- FragmentName : Name but `on`
abbrev pub FragmentNamed : List Located → At (List ℕ) → Type 0
FragmentNamed = Placed (TokenOf fragment_names name_of)

-- TypeCondition : `on` NamedType
abbrev pub TypeConditionOf : List Located → At (List ℕ) → Type 0
TypeConditionOf = Then (Sign k.On) (λ u. Named)

-- Alias? Name, with Alias : Name `:`
abbrev pub NamesOf : List Located → AliasedName → Type 0
NamesOf = Then Named
    (λ a. EitherOf (Then (Sign k.Colon) (λ u. Made (λ b. (Some a, b)) Named)) (Nothing (None, a)))

-- the place of some tokens
pub record Stands (ts : List Located) (at : Span) : Type 0 where
  pub head : Located
  pub tail : List Located
  pub is : ts ≡ head ∷ tail
  pub stands : at ≡ span_of head tail

module _ (S : Type 0) (reads : ScalarToken → Result S ParseError) (of_bool : Bool → S) where
  -- FragmentSpread : `...` FragmentName Directives?
  abbrev pub SpreadOf : List Located → FragmentSpread S → Type 0
  SpreadOf = Then (Sign k.Ellipsis) (λ u. Then FragmentNamed
      (λ n. Made (λ ds. record { name = n; directives = ds }) (DirectivesOf S reads of_bool false)))

  mutual
    -- Selection : Field, FragmentSpread, InlineFragment
    pub data SelectionOf : List Located → Selection S → Type 0 where
      of_field : (ts : List Located) (x : At (Field S)) → Stands ts x.span → FieldOf ts x.item
          → SelectionOf ts (s.Field x)
      of_spread : (ts : List Located) (x : At (FragmentSpread S)) → Placed SpreadOf ts x
          → SelectionOf ts (s.FragmentSpread x)
      of_inline : (ts : List Located) (x : At (InlineFragment S)) → Stands ts x.span
          → InlineOf ts x.item → SelectionOf ts (s.InlineFragment x)

    -- Field : Alias? Name Arguments? Directives? SelectionSet?
    pub data FieldOf : List Located → Field S → Type 0 where
      of_parts : (ns gs ds ss : List Located) (x : Field S) → NamesOf ns (x.alias, x.name)
          → OptionOf (ArgumentsOf S reads of_bool false) gs x.arguments
          → DirectivesOf S reads of_bool false ds x.directives
          → MaybeSetOf ss x.selection_set → FieldOf (ns ++ (gs ++ (ds ++ ss))) x

    -- InlineFragment : `...` TypeCondition? Directives? SelectionSet
    pub data InlineOf : List Located → InlineFragment S → Type 0 where
      of_inline_parts : (ps cs ds ss : List Located) (x : InlineFragment S) → Sign k.Ellipsis ps tt
          → OptionOf TypeConditionOf cs x.type_condition
          → DirectivesOf S reads of_bool false ds x.directives
          → SetOf ss x.selection_set → InlineOf (ps ++ (cs ++ (ds ++ ss))) x

    pub data MaybeSetOf : List Located → Option (List (Selection S)) → Type 0 where
      no_set : MaybeSetOf [] None
      some_set : (ts : List Located) (xs : List (Selection S)) → SetOf ts xs
          → MaybeSetOf ts (Some xs)

    -- SelectionSet : `{` Selection+ `}`
    pub data SetOf : List Located → List (Selection S) → Type 0 where
      of_set : (a b : Located) (ts : List Located) (xs : List (Selection S)) → Is k.CurlyOpen a
          → SelectionsOf ts xs → Is k.CurlyClose b → SetOf (a ∷ (ts ++ b ∷ [])) xs

    pub data SelectionsOf : List Located → List (Selection S) → Type 0 where
      one_selection : (ts : List Located) (x : Selection S) → SelectionOf ts x
          → SelectionsOf ts (x ∷ [])
      more_selections : (ts us : List Located) (xs : List (Selection S)) (x : Selection S)
          → SelectionsOf ts xs → SelectionOf us x → SelectionsOf (ts ++ us) (xs ++ x ∷ [])
