-- Selections stand inside selections: each takes a token, so the count of levels decides nothing.
use Rattle.std.proofs.Common.{◌≡◌, ℕ, zero, suc, Bool, true, false, List, [], ◌∷◌, ◌++◌, Result, Err, Some, None, refl, arith}
use Rattle.graphql_text.specs.declared.position.Span.{Span}
use Rattle.graphql_text.specs.declared.position.SourcePosition.{SourcePosition}
use Rattle.graphql_text.specs.declared.token.ScalarToken.{ScalarToken}
use Rattle.graphql_text.specs.declared.parse_error.ParseError.{ParseError}
use Rattle.graphql_grammar.specs.declared.kind.Kind.{Kind}
use Rattle.graphql_grammar.specs.declared.kind.Kind.TheVariants as k
use Rattle.graphql_grammar.specs.Kinds.{Kinds, only, names, fragment_names}
use Rattle.graphql_grammar.specs.Input.{Input, Parser, refuse, refusal, left, peek, peek_kind}
use Rattle.graphql_grammar.specs.Steps.{sees, token, expect, name, name_of, located, all, all_from}
use Rattle.graphql_grammar.specs.Ahead.{mk, refused_at}
use Rattle.graphql_grammar.proofs.Loops.{Takes}
use Rattle.graphql_grammar.proofs.Recursion.{Uses, Agree, agree_self, agree_fewer, agree_pure, agree_bind, agree_made, agree_located, agree_when, agree_optional, agree_token, agree_some_between, unfolds, uses_fix}
use Rattle.graphql_tree.specs.declared.selection.Selection.{Selection}
use Rattle.graphql_tree.specs.declared.selection.Selection.TheVariants as s
use Rattle.graphql_value_syntax.specs.ReadValues.{value}
use Rattle.graphql_value_syntax.specs.ReadDirectives.{some_of, arguments, directive, directives}
use Rattle.graphql_language.specs.ReadSelections.{field_names, type_condition, fragment_spread, inlines, spreads, selection_of, made_field, selection_set, inline_fragment, spread, field, selection_layer, selection_from, selection}

-- ---- parts that do not call themselves

-- the same parser on both sides, which takes a token, or may
takes_one : {A : Type 0} {n : ℕ} {p : Parser A} → Uses true p → Agree true n p p
takes_one = agree_self

maybe_takes : {A : Type 0} {n : ℕ} {p : Parser A} → Uses false p → Agree false n p p
maybe_takes = agree_self

agree_expect : {n : ℕ} (w : Kind) → only w k.EndOfFile ≡ false → Agree true n (expect w) (expect w)
agree_expect w ends = agree_token (only w) (λ x. tt {0}) ends

agree_name : {n : ℕ} → Agree true n (located name) (located name)
agree_name = agree_located (agree_token names name_of refl)

uses_all_from : {A : Type 0} (kinds : Kinds) (p : Parser A) → Uses true p → (m : ℕ) (found : List A) → Uses false (all_from kinds p m found)
unfolding all_from
uses_all_from kinds p takes zero found = (agree_pure {n = 0} found).uses
uses_all_from kinds p takes (suc m) found =
    (agree_when {n = 0} kinds (agree_bind (takes_one takes) (λ x. maybe_takes (uses_all_from kinds p takes m (found ++ x ∷ [])))) (agree_pure found)).uses

-- what each takes a token, taken any number of times
pub uses_all : {A : Type 0} (kinds : Kinds) (p : Parser A) → Uses true p → (found : List A) → Uses false (all kinds p found)
uses_all kinds p takes found i x j r = uses_all_from kinds p takes (left i) found i x j r

pub uses_field_names : Uses true field_names
unfolding field_names
uses_field_names = (agree_bind {n = 0} agree_name (λ a. agree_when (only k.Colon)
    (agree_bind (agree_expect k.Colon refl) (λ u. agree_made (λ b. (Some a, b)) agree_name)) (agree_pure (None, a)))).uses

pub uses_type_condition : Uses true type_condition
unfolding type_condition
uses_type_condition = (agree_bind {n = 0} (agree_expect k.On refl) (λ u. agree_name)).uses

module _ {S : Type 0} (reads : ScalarToken → Result S ParseError) (of_bool : Bool → S) (takes : (is_const : Bool) → Uses true (value reads of_bool is_const)) where
  pub uses_arguments : (is_const : Bool) → Uses true (arguments reads of_bool is_const)
  unfolding arguments
  uses_arguments is_const = (agree_located (agree_made (λ ps. record { items = ps })
      (agree_some_between {n = 0} (agree_bind {a = true} {b = true} agree_name (λ key. agree_bind {a = true} {b = true} (agree_expect k.Colon refl) (λ u. agree_made (λ x. (key, x)) (takes_one (takes is_const))))) k.ParenOpen k.ParenClose refl refl))).uses

  pub uses_directive : (is_const : Bool) → Uses true (directive reads of_bool is_const)
  unfolding directive
  uses_directive is_const = (agree_located {n = 0} (agree_bind (agree_expect k.At refl) (λ u. agree_bind agree_name (λ n.
      agree_made (λ args. record { name = n; arguments = args }) (agree_optional (only k.ParenOpen) (takes_one (uses_arguments is_const))))))).uses

  pub uses_directives : (is_const : Bool) → Uses false (directives reads of_bool is_const)
  unfolding directives
  uses_directives is_const = (agree_made {n = 0} some_of (maybe_takes (uses_all (only k.At) (directive reads of_bool is_const) (uses_directive is_const) []))).uses

  pub uses_fragment_spread : Uses true (fragment_spread reads of_bool)
  unfolding fragment_spread
  uses_fragment_spread = (agree_bind {n = 0} (agree_located (agree_token fragment_names name_of refl)) (λ n.
      agree_made (λ ds. spreads (record { name = n; directives = ds })) (maybe_takes (uses_directives false)))).uses

  -- ---- one level

  module _ (n : ℕ) (p q : Parser (Selection S)) (inner : Agree true n p q) where
    agree_set : Agree true (suc n) (selection_set reads of_bool p) (selection_set reads of_bool q)
    unfolding selection_set
    agree_set = agree_some_between inner k.CurlyOpen k.CurlyClose refl refl

    agree_inline : Agree true n (inline_fragment reads of_bool p) (inline_fragment reads of_bool q)
    unfolding inline_fragment
    agree_inline = agree_bind (agree_optional (only k.On) (takes_one uses_type_condition)) (λ c. agree_bind (maybe_takes (uses_directives false)) (λ ds.
        agree_made (λ ss. inlines (record { type_condition = c; directives = ds; selection_set = ss })) (agree_fewer (omega arith) agree_set)))

    agree_spread : Agree true (suc n) (spread reads of_bool p) (spread reads of_bool q)
    unfolding spread
    agree_spread = agree_located (agree_bind (agree_expect k.Ellipsis refl) (λ u. agree_when fragment_names (takes_one uses_fragment_spread) (agree_fewer (omega arith) agree_inline)))

    agree_field : Agree true (suc n) (field reads of_bool p) (field reads of_bool q)
    unfolding field
    agree_field = agree_bind (takes_one uses_field_names) (λ ns. agree_bind (agree_optional (only k.ParenOpen) (takes_one (uses_arguments false))) (λ args. agree_bind (maybe_takes (uses_directives false)) (λ ds.
        agree_made (made_field ns args ds) (agree_optional (only k.CurlyOpen) (agree_fewer (omega arith) agree_set)))))

    agree_layer : Agree true (suc n) (selection_layer reads of_bool p) (selection_layer reads of_bool q)
    unfolding selection_layer
    agree_layer = agree_when (only k.Ellipsis) (agree_made selection_of agree_spread) (agree_made s.Field (agree_located agree_field))

  from_zero : (i : Input) → selection_from reads of_bool 0 i ≡ refuse i
  unfolding selection_from
  from_zero i = refl

  from_suc : (n : ℕ) (i : Input) → selection_from reads of_bool (suc n) i ≡ selection_layer reads of_bool (selection_from reads of_bool n) i
  unfolding selection_from
  from_suc n i = refl

  -- a selection is one level, with selections inside it
  pub selection_unfolds : (i : Input) → selection reads of_bool i ≡ selection_layer reads of_bool (selection reads of_bool) i
  unfolding selection
  selection_unfolds = unfolds (selection_layer reads of_bool) (selection_from reads of_bool) from_zero from_suc agree_layer

  -- it takes a token
  pub selection_uses : Uses true (selection reads of_bool)
  unfolding selection
  selection_uses = uses_fix (selection_layer reads of_bool) (selection_from reads of_bool) from_zero from_suc agree_layer

  pub takes_selection : Takes (selection reads of_bool)
  takes_selection i x j r = let l = selection_uses i x j r in omega arith

  -- no selection begins at the end of the text
  pub selection_at_end : (f : Span) (e : SourcePosition) → selection reads of_bool (mk [] f e) ≡ Err (refused_at f [])
  unfolding selection_layer field field_names sees peek_kind peek token refusal
  selection_at_end f e = selection_unfolds (mk [] f e)
