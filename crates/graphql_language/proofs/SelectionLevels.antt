-- A selection is its beginning and the rest of it.
use Rattle.std.proofs.Common.{◌≡◌, ℕ, Bool, true, false, if◌then◌else◌, List, [], ◌∷◌, Option, Some, None, Result, Ok, Err, refl, ap, ◌∙◌}
use Rattle.graphql_text.specs.declared.position.SourcePosition.{SourcePosition}
use Rattle.graphql_text.specs.declared.token.ScalarToken.{ScalarToken}
use Rattle.graphql_text.specs.declared.parse_error.ParseError.{ParseError}
use Rattle.graphql_tree.specs.declared.directive.Arguments.{Arguments}
use Rattle.graphql_tree.specs.declared.directive.Directive.{Directive}
use Rattle.graphql_tree.specs.declared.selection.Field.{Field}
use Rattle.graphql_tree.specs.declared.selection.Selection.{Selection}
use Rattle.graphql_tree.specs.declared.selection.Selection.TheVariants as s
use Rattle.graphql_language.specs.declared.parse.selection.FieldHead.{FieldHead}
use Rattle.graphql_language.specs.declared.parse.selection.Head.{Head}
use Rattle.graphql_language.specs.declared.parse.selection.Head.TheVariants as h
use Rattle.graphql_grammar.specs.declared.kind.Kind.TheVariants as k
use Rattle.graphql_grammar.specs.Kinds.{only, fragment_names}
use Rattle.graphql_grammar.specs.Input.{At, Input, Fault, Outcome, Parser, and_then, ◌>>=◌, pure, peek}
use Rattle.graphql_grammar.specs.Steps.{sees, when, until, expect, name_in, with_place, located, optional}
use Rattle.graphql_grammar.proofs.Parts.{then_refused}
use Rattle.graphql_value_syntax.specs.ReadDirectives.{arguments, directives}
use Rattle.graphql_language.specs.ReadSelections.{AliasedName, field_names, type_condition, Spread, spreads, inlines, selection_of, made_field, fragment_spread, selection_set, inline_fragment, spread, field, selection_layer, selection}
use Rattle.graphql_language.specs.declared.parse.selection.Begun.{Begun}
use Rattle.graphql_language.specs.declared.parse.selection.Begun.TheVariants as how
use Rattle.graphql_language.specs.ReadHeads.{head_with, field_with, inline_with, spread_of, selection_with, ending, whole_ending, field_parts, field_head, spread_parts, inline_head, spread_begun, field_begun, selection_start, rest_read}
use Rattle.graphql_value_syntax.proofs.ValueDepth.{value_uses}
use Rattle.graphql_language.proofs.SelectionDepth.{selection_unfolds}

module _ {S : Type 0} (reads : ScalarToken → Result S ParseError) (of_bool : Bool → S) (p : Parser (Selection S)) where
  abbrev Rest : Begun S → Parser (Selection S)
  Rest = rest_read reads of_bool p

  abbrev Set : Parser (List (Selection S))
  Set = selection_set reads of_bool p

  abbrev as_field : At (Field S) → Parser (Selection S)
  as_field x = pure (s.Field x)

  abbrev as_selection : At (Spread S) → Parser (Selection S)
  as_selection x = pure (selection_of x)

  -- ---- fields

  module _ (i : Input) (ns : AliasedName) (args : Option (At (Arguments S))) (ds : Option (List (At (Directive S)))) (j : Input) where
    abbrev start : SourcePosition
    start = (peek i).span.start

    some_set : (o : Outcome (List (Selection S))) → and_then (and_then (and_then (and_then o (λ x. pure (Some x))) (λ ss. pure (made_field ns args ds ss))) (with_place i)) as_field
        ≡ and_then o (λ ss. ending (field_with (head_with start ns args ds) (Some ss)))
    some_set (Ok q) = refl
    some_set (Err e) = refl

    field_set : (b : Bool) → and_then (and_then (and_then (if b then and_then (Set j) (λ x. pure (Some x)) else Ok (None, j)) (λ ss. pure (made_field ns args ds ss))) (with_place i)) as_field
        ≡ and_then (if b then Ok (how.Opens (h.Field (head_with start ns args ds)), j) else Ok (how.Whole (field_with (head_with start ns args ds) None j.end), j)) Rest
    field_set true = some_set (Set j)
    field_set false = refl

  module _ (i : Input) where
    abbrev begin_at : Parser (Begun S)
    begin_at = field_parts reads of_bool (peek i).span.start >>= (λ x. when (only k.CurlyOpen) (pure (how.Opens (h.Field x))) (whole_ending (field_with x None)))

    abbrev on_field : Field S → Parser (At (Field S))
    on_field = with_place i

    abbrev on_head : FieldHead S → Parser (Begun S)
    on_head x = when (only k.CurlyOpen) (pure (how.Opens (h.Field x))) (whole_ending (field_with x None))

    field_directives : (ns : AliasedName) (args : Option (At (Arguments S))) (o : Outcome (Option (List (At (Directive S)))))
        → and_then (and_then (and_then o (λ ds. optional (only k.CurlyOpen) Set >>= (λ ss. pure (made_field ns args ds ss)))) on_field) as_field
        ≡ and_then (and_then (and_then o (λ ds. pure (head_with (peek i).span.start ns args ds))) on_head) Rest
    field_directives ns args (Ok q) = field_set i ns args q.0 q.1 (sees (only k.CurlyOpen) q.1)
    field_directives ns args (Err e) = refl

    field_arguments : (ns : AliasedName) (o : Outcome (Option (At (Arguments S))))
        → and_then (and_then (and_then o (λ args. directives reads of_bool false >>= (λ ds. optional (only k.CurlyOpen) Set >>= (λ ss. pure (made_field ns args ds ss))))) on_field) as_field
        ≡ and_then (and_then (and_then o (λ args. directives reads of_bool false >>= (λ ds. pure (head_with (peek i).span.start ns args ds)))) on_head) Rest
    field_arguments ns (Ok q) = field_directives ns q.0 (directives reads of_bool false q.1)
    field_arguments ns (Err e) = refl

    field_named : (o : Outcome AliasedName)
        → and_then (and_then (and_then o (λ ns. optional (only k.ParenOpen) (arguments reads of_bool false) >>= (λ args. directives reads of_bool false >>= (λ ds. optional (only k.CurlyOpen) Set >>= (λ ss. pure (made_field ns args ds ss)))))) on_field) as_field
        ≡ and_then (and_then (and_then o (λ ns. optional (only k.ParenOpen) (arguments reads of_bool false) >>= (λ args. directives reads of_bool false >>= (λ ds. pure (head_with (peek i).span.start ns args ds))))) on_head) Rest
    field_named (Ok q) = field_arguments q.0 (optional (only k.ParenOpen) (arguments reads of_bool false) q.1)
    field_named (Err e) = refl

    field_level : and_then (located (field reads of_bool p) i) as_field ≡ and_then (field_begun reads of_bool i) Rest
    unfolding field field_begun field_head field_parts
    field_level = field_named (field_names i)

  -- ---- behind three points

  module _ (i : Input) where
    abbrev at : SourcePosition
    at = (peek i).span.start

    abbrev on_spread : Spread S → Parser (At (Spread S))
    on_spread = with_place i

    spread_directives : (n : At (List ℕ)) (o : Outcome (Option (List (At (Directive S)))))
        → and_then (and_then (and_then o (λ ds. pure (spreads (record { name = n; directives = ds })))) on_spread) as_selection
        ≡ and_then (and_then (and_then o (λ ds. pure (record { name = n; directives = ds }))) (λ x. whole_ending (spread_of x at))) Rest
    spread_directives n (Ok q) = refl
    spread_directives n (Err e) = refl

    spread_named : (o : Outcome (At (List ℕ)))
        → and_then (and_then (and_then o (λ n. directives reads of_bool false >>= (λ ds. pure (spreads (record { name = n; directives = ds }))))) on_spread) as_selection
        ≡ and_then (and_then (and_then o (λ n. directives reads of_bool false >>= (λ ds. pure (record { name = n; directives = ds })))) (λ x. whole_ending (spread_of x at))) Rest
    spread_named (Ok q) = spread_directives q.0 (directives reads of_bool false q.1)
    spread_named (Err e) = refl

    inline_set : (c : Option (At (List ℕ))) (ds : Option (List (At (Directive S)))) (o : Outcome (List (Selection S)))
        → and_then (and_then (and_then o (λ ss. pure (inlines (record { type_condition = c; directives = ds; selection_set = ss })))) on_spread) as_selection
        ≡ and_then o (λ ss. ending (inline_with (record { start = at; type_condition = c; directives = ds }) ss))
    inline_set c ds (Ok q) = refl
    inline_set c ds (Err e) = refl

    inline_directives : (c : Option (At (List ℕ))) (o : Outcome (Option (List (At (Directive S)))))
        → and_then (and_then (and_then o (λ ds. Set >>= (λ ss. pure (inlines (record { type_condition = c; directives = ds; selection_set = ss }))))) on_spread) as_selection
        ≡ and_then (and_then (and_then o (λ ds. pure (record { start = at; type_condition = c; directives = ds }))) (λ x. pure (how.Opens (h.InlineFragment x)))) Rest
    inline_directives c (Ok q) = inline_set c q.0 (Set q.1)
    inline_directives c (Err e) = refl

    inline_condition : (o : Outcome (Option (At (List ℕ))))
        → and_then (and_then (and_then o (λ c. directives reads of_bool false >>= (λ ds. Set >>= (λ ss. pure (inlines (record { type_condition = c; directives = ds; selection_set = ss })))))) on_spread) as_selection
        ≡ and_then (and_then (and_then o (λ c. directives reads of_bool false >>= (λ ds. pure (record { start = at; type_condition = c; directives = ds })))) (λ x. pure (how.Opens (h.InlineFragment x)))) Rest
    inline_condition (Ok q) = inline_directives q.0 (directives reads of_bool false q.1)
    inline_condition (Err e) = refl

    either : (j : Input) (b : Bool) → and_then (and_then (if b then fragment_spread reads of_bool j else inline_fragment reads of_bool p j) on_spread) as_selection
        ≡ and_then (if b then (spread_parts reads of_bool >>= (λ x. whole_ending (spread_of x at))) j else (inline_head reads of_bool at >>= (λ x. pure (how.Opens (h.InlineFragment x)))) j) Rest
    unfolding fragment_spread inline_fragment spread_parts inline_head
    either j true = spread_named (located (name_in fragment_names) j)
    either j false = inline_condition (optional (only k.On) type_condition j)

    behind_points : (o : Outcome (Unit {0})) → and_then (and_then (and_then o (λ u. when fragment_names (fragment_spread reads of_bool) (inline_fragment reads of_bool p))) on_spread) as_selection
        ≡ and_then (and_then o (λ u. when fragment_names (spread_parts reads of_bool >>= (λ x. whole_ending (spread_of x at))) (inline_head reads of_bool at >>= (λ x. pure (how.Opens (h.InlineFragment x)))))) Rest
    behind_points (Ok q) = either q.1 (sees fragment_names q.1)
    behind_points (Err e) = refl

    spread_level : and_then (spread reads of_bool p i) as_selection ≡ and_then (spread_begun reads of_bool at i) Rest
    unfolding spread spread_begun
    spread_level = behind_points (expect k.Ellipsis i)

  -- ---- a level

  level_by : (i : Input) (b : Bool) → (if b then and_then (spread reads of_bool p i) as_selection else and_then (located (field reads of_bool p) i) as_field)
      ≡ and_then (if b then spread_begun reads of_bool (peek i).span.start i else field_begun reads of_bool i) Rest
  level_by i true = spread_level i
  level_by i false = field_level i

  pub level_is : (i : Input) → selection_layer reads of_bool p i ≡ and_then (selection_start reads of_bool i) (rest_read reads of_bool p)
  unfolding selection_layer selection_start
  level_is i = level_by i (sees (only k.Ellipsis) i)

module _ {S : Type 0} (reads : ScalarToken → Result S ParseError) (of_bool : Bool → S) where
  pub selection_begins : (i : Input) → selection reads of_bool i ≡ and_then (selection_start reads of_bool i) (rest_read reads of_bool (selection reads of_bool))
  selection_begins i = selection_unfolds reads of_bool (value_uses reads of_bool) i ∙ level_is reads of_bool (selection reads of_bool) i

  abbrev Selected : Parser (Selection S)
  Selected = selection reads of_bool

  abbrev Inside : Parser (List (Selection S))
  Inside = selection_set reads of_bool Selected

  pub selection_refused : (i : Input) {e : Fault} → selection_start reads of_bool i ≡ Err e → selection reads of_bool i ≡ Err e
  selection_refused i refused = selection_begins i ∙ ap (λ (o : Outcome (Begun S)). and_then o (rest_read reads of_bool Selected)) refused

  module _ (i : Input) {j : Input} where
    pub selection_whole : {x : Selection S} → selection_start reads of_bool i ≡ Ok (how.Whole x, j) → selection reads of_bool i ≡ Ok (x, j)
    selection_whole read = selection_begins i ∙ ap (λ (o : Outcome (Begun S)). and_then o (rest_read reads of_bool Selected)) read

    module _ {x : Head S} (read : selection_start reads of_bool i ≡ Ok (how.Opens x, j)) where
      pub selection_opens : selection reads of_bool i ≡ and_then (selection_set reads of_bool (selection reads of_bool) j) (λ ss. ending (selection_with x ss))
      selection_opens = selection_begins i ∙ ap (λ (o : Outcome (Begun S)). and_then o (rest_read reads of_bool Selected)) read

      pub selection_inside_refused : {e : Fault} → selection_set reads of_bool (selection reads of_bool) j ≡ Err e → selection reads of_bool i ≡ Err e
      selection_inside_refused refused = selection_opens ∙ ap (λ (o : Outcome (List (Selection S))). and_then o (λ ss. ending (selection_with x ss))) refused

  -- ---- a selection set

  pub set_refused : (i : Input) {e : Fault} → expect k.CurlyOpen i ≡ Err e → selection_set reads of_bool (selection reads of_bool) i ≡ Err e
  unfolding selection_set
  set_refused i refused = then_refused (expect k.CurlyOpen) (λ u. Selected >>= (λ x. until k.CurlyClose Selected (x ∷ []))) refused
