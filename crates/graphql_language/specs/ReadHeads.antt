-- How a selection begins: all of it, or what stands before its selection set (GraphQL October 2021,
-- 2.4 Selection Sets, 2.5 Fields, 2.8 Fragments).
use Rattle.std.specs.Prelude.{Bool, false, List, Option, Some, None, Result, Ok}
use Rattle.graphql_text.specs.declared.position.SourcePosition.{SourcePosition}
use Rattle.graphql_text.specs.declared.token.ScalarToken.{ScalarToken}
use Rattle.graphql_text.specs.declared.parse_error.ParseError.{ParseError}
use Rattle.graphql_tree.specs.declared.directive.Arguments.{Arguments}
use Rattle.graphql_tree.specs.declared.directive.Directive.{Directive}
use Rattle.graphql_tree.specs.declared.selection.FragmentSpread.{FragmentSpread}
use Rattle.graphql_tree.specs.declared.selection.Selection.{Selection}
use Rattle.graphql_tree.specs.declared.selection.Selection.TheVariants as s
use Rattle.graphql_language.specs.declared.parse.selection.FieldHead.{FieldHead}
use Rattle.graphql_language.specs.declared.parse.selection.InlineHead.{InlineHead}
use Rattle.graphql_language.specs.declared.parse.selection.Head.{Head}
use Rattle.graphql_language.specs.declared.parse.selection.Head.TheVariants as h
use Rattle.graphql_language.specs.declared.parse.selection.Begun.{Begun}
use Rattle.graphql_language.specs.declared.parse.selection.Begun.TheVariants as how
use Rattle.graphql_grammar.specs.declared.kind.Kind.TheVariants as k
use Rattle.graphql_grammar.specs.Kinds.{only, fragment_names}
use Rattle.graphql_grammar.specs.Input.{At, Parser, ◌>>=◌, ◌>>◌, pure, peek}
use Rattle.graphql_grammar.specs.Steps.{when, expect, name_in, located, optional}
use Rattle.graphql_value_syntax.specs.ReadDirectives.{arguments, directives}
use Rattle.graphql_language.specs.ReadSelections.{AliasedName, field_names, type_condition}
use Rattle.graphql_language.specs.ReadSelections.{made_field}
use Rattle.graphql_language.specs.ReadSelections.{selection_set}

module _ {S : Type 0} where
  abbrev pub head_with : SourcePosition → AliasedName → Option (At (Arguments S))
      → Option (List (At (Directive S))) → FieldHead S
  head_with p ns args ds =
      record { start = p; alias = ns.0; name = ns.1; arguments = args; directives = ds }

  -- a field that ends there
  abbrev pub field_with : FieldHead S → Option (List (Selection S)) → SourcePosition → Selection S
  field_with x ss e =
      s.Field (record {
        item = made_field (x.alias, x.name) x.arguments x.directives ss;
        span = record { start = x.start; end = e };
      })

  abbrev pub inline_with : InlineHead S → List (Selection S) → SourcePosition → Selection S
  inline_with x ss e = s.InlineFragment (record {
    item = record {
      type_condition = x.type_condition;
      directives = x.directives;
      selection_set = ss;
    };
    span = record { start = x.start; end = e };
  })

  abbrev pub spread_of : FragmentSpread S → SourcePosition → SourcePosition → Selection S
  spread_of x p e = s.FragmentSpread (record { item = x; span = record { start = p; end = e } })

  -- the selection that begins so, with this selection set, which ends there
  abbrev pub selection_with : Head S → List (Selection S) → SourcePosition → Selection S
  selection_with (h.Field x) ss e = field_with x (Some ss) e
  selection_with (h.InlineFragment x) ss e = inline_with x ss e

  abbrev pub ending : (SourcePosition → Selection S) → Parser (Selection S)
  ending make = λ i. Ok (make i.end, i)

  abbrev pub whole_ending : (SourcePosition → Selection S) → Parser (Begun S)
  whole_ending make = λ i. Ok (how.Whole (make i.end), i)

module _ {S : Type 0} (reads : ScalarToken → Result S ParseError) (of_bool : Bool → S) where
  unfoldable pub field_parts : SourcePosition → Parser (FieldHead S)
  field_parts p = do
    ns ← field_names
    args ← optional (only k.ParenOpen) (arguments reads of_bool false)
    ds ← directives reads of_bool false
    pure (head_with p ns args ds)

  unfoldable pub field_head : Parser (FieldHead S)
  field_head = λ i. field_parts (peek i).span.start i

  unfoldable pub spread_parts : Parser (FragmentSpread S)
  spread_parts = do
    n ← located (name_in fragment_names)
    ds ← directives reads of_bool false
    pure (record { name = n; directives = ds })

  unfoldable pub inline_head : SourcePosition → Parser (InlineHead S)
  inline_head p = do
    c ← optional (only k.On) type_condition
    ds ← directives reads of_bool false
    pure (record { start = p; type_condition = c; directives = ds })

  -- what stands behind three points, which stand there
  unfoldable pub spread_begun : SourcePosition → Parser (Begun S)
  spread_begun p = do
    expect k.Ellipsis
    when fragment_names (do x ← spread_parts; whole_ending (spread_of x p))
        (do x ← inline_head p; pure (how.Opens (h.InlineFragment x)))

  unfoldable pub field_begun : Parser (Begun S)
  field_begun = do
    x ← field_head
    when (only k.CurlyOpen) (pure (how.Opens (h.Field x))) (whole_ending (field_with x None))

  unfoldable pub selection_start : Parser (Begun S)
  selection_start = when (only k.Ellipsis) (λ i. spread_begun (peek i).span.start i) field_begun

  -- the rest of a selection
  abbrev pub rest_read : Parser (Selection S) → Begun S → Parser (Selection S)
  rest_read inner (how.Whole x) = pure x
  rest_read inner (how.Opens x) = do
    ss ← selection_set reads of_bool inner
    ending (selection_with x ss)
