-- How selections are read (GraphQL October 2021, 2.4 Selection Sets, 2.5 Fields, 2.8 Fragments).
use Rattle.std.specs.Prelude.{ℕ, zero, suc, Bool, false, List, Option, Some, None, Result}
use Rattle.graphql_text.specs.declared.token.ScalarToken.{ScalarToken}
use Rattle.graphql_text.specs.declared.parse_error.ParseError.{ParseError}
use Rattle.graphql_tree.specs.declared.directive.Arguments.{Arguments}
use Rattle.graphql_tree.specs.declared.directive.Directive.{Directive}
use Rattle.graphql_tree.specs.declared.selection.Field.{Field}
use Rattle.graphql_tree.specs.declared.selection.FragmentSpread.{FragmentSpread}
use Rattle.graphql_tree.specs.declared.selection.InlineFragment.{InlineFragment}
use Rattle.graphql_tree.specs.declared.selection.Selection.{Selection}
use Rattle.graphql_tree.specs.declared.selection.Selection.TheVariants as s
use Rattle.graphql_grammar.specs.declared.kind.Kind.TheVariants as k
use Rattle.graphql_grammar.specs.Kinds.{only, fragment_names}
use Rattle.graphql_grammar.specs.Input.{At, Parser, ◌>>=◌, ◌>>◌, pure, refuse, left}
use Rattle.graphql_grammar.specs.Steps.{when, expect, name, name_in, located, optional}
use Rattle.graphql_grammar.specs.Steps.{some_between}
use Rattle.graphql_value_syntax.specs.ReadDirectives.{arguments, directives}

-- an alias and a name, or a name alone
abbrev pub AliasedName : Type 0
AliasedName = Option (At (List ℕ)) × At (List ℕ)

-- an alias and a name, or a name
unfoldable pub field_names : Parser AliasedName
field_names = do
  a ← located name
  when (only k.Colon) (do expect k.Colon; b ← located name; pure (Some a, b)) (pure (None, a))

-- the type to which a fragment applies
unfoldable pub type_condition : Parser (At (List ℕ))
type_condition = do
  expect k.On
  located name

-- what stands behind three points: the spread of a fragment, or an inline fragment
pub data Spread (S : Type 0) : Type 0 where
  spreads : FragmentSpread S → Spread S
  inlines : InlineFragment S → Spread S

module _ {S : Type 0} where
  abbrev pub made_spread : Spread S → At (Spread S) → Selection S
  made_spread (spreads x) at = s.FragmentSpread (record { item = x; span = at.span })
  made_spread (inlines x) at = s.InlineFragment (record { item = x; span = at.span })

  -- the selection that a spread is
  abbrev pub selection_of : At (Spread S) → Selection S
  selection_of at = made_spread at.item at

  -- a field of its parts
  abbrev pub made_field : AliasedName → Option (At (Arguments S)) → Option (List (At (Directive S)))
      → Option (List (Selection S)) → Field S
  made_field ns args ds ss =
      record { alias = ns.0; name = ns.1; arguments = args; directives = ds; selection_set = ss }

module _ {S : Type 0} (reads : ScalarToken → Result S ParseError) (of_bool : Bool → S) where
  -- the spread of a named fragment, behind its three points
  unfoldable pub fragment_spread : Parser (Spread S)
  fragment_spread = do
    n ← located (name_in fragment_names)
    ds ← directives reads of_bool false
    pure (spreads (record { name = n; directives = ds }))

  module _ (inner : Parser (Selection S)) where
    -- a selection set in its braces
    unfoldable pub selection_set : Parser (List (Selection S))
    selection_set = some_between k.CurlyOpen k.CurlyClose inner

    -- an inline fragment, behind its three points
    unfoldable pub inline_fragment : Parser (Spread S)
    inline_fragment = do
      c ← optional (only k.On) type_condition
      ds ← directives reads of_bool false
      ss ← selection_set
      pure (inlines (record { type_condition = c; directives = ds; selection_set = ss }))

    -- a fragment spread or an inline fragment
    unfoldable pub spread : Parser (At (Spread S))
    spread = located do
      expect k.Ellipsis
      when fragment_names fragment_spread inline_fragment

    -- a field, its parts in order
    unfoldable pub field : Parser (Field S)
    field = do
      ns ← field_names
      args ← optional (only k.ParenOpen) (arguments reads of_bool false)
      ds ← directives reads of_bool false
      ss ← optional (only k.CurlyOpen) selection_set
      pure (made_field ns args ds ss)

    -- one selection, with the parser of those within it
    unfoldable pub selection_layer : Parser (Selection S)
    selection_layer = when (only k.Ellipsis) (do x ← spread; pure (selection_of x))
        (do x ← located field; pure (s.Field x))

  unfoldable pub selection_from : ℕ → Parser (Selection S)
  selection_from zero = refuse
  selection_from (suc n) = selection_layer (selection_from n)

  -- each level takes a token, so the count of those that are left is enough
  unfoldable pub selection : Parser (Selection S)
  selection = λ i. selection_from (suc (left i)) i
