-- Selections and definitions do not see places: the documents that are read of the same tokens differ in places alone.
use Rattle.std.proofs.Common.{◌≡◌, ℕ, zero, suc, Bool, false, List, [], ◌∷◌, map, Result, Option, Some, None, ap, ap₂, ◌∙◌, sym}
use Rattle.std.specs.Option.{option_map}
use Rattle.graphql_text.specs.declared.token.ScalarToken.{ScalarToken}
use Rattle.graphql_text.specs.declared.parse_error.ParseError.{ParseError}
use Rattle.graphql_values.specs.InputValues.{unplaced}
use Rattle.graphql_grammar.specs.declared.kind.Kind.TheVariants as k
use Rattle.graphql_grammar.specs.Kinds.{only, names, fragment_names}
use Rattle.graphql_grammar.specs.Input.{At, Parser}
use Rattle.graphql_grammar.specs.Steps.{name_of, name_in, located}
use Rattle.graphql_grammar.proofs.Alike.{Even, even_pure, even_refuse, even_bind, even_made, even_when, even_token, even_optional, even_finished, even_all, even_some_between, even_levels}
use Rattle.graphql_tree.specs.declared.directive.Arguments.{Arguments}
use Rattle.graphql_tree.specs.declared.directive.Directive.{Directive}
use Rattle.graphql_tree.specs.declared.selection.Selection.{Selection}
use Rattle.graphql_tree.specs.declared.selection.Selection.TheVariants as s
use Rattle.graphql_tree.specs.declared.document.Definition.TheVariants as d
use Rattle.graphql_language.specs.ReadSelections.{AliasedName, field_names, type_condition, Spread, spreads, inlines, made_spread, selection_of, fragment_spread, made_field, selection_set, inline_fragment, spread, field, selection_layer, selection_from, selection}
use Rattle.graphql_language.specs.ReadDocuments.{operation_words, operation_type_of, definition_kinds, query_of, set, full_operation, operation, fragment, definition, document}
use Rattle.graphql_tree.specs.Unlocated.{without_place, unlocated_name, unlocated_arguments, unlocated_directives, unlocated_spread, unlocated_selection, unlocated_field, unlocated_inline, unlocated_operation, unlocated_fragment, unlocated_definition, unlocated_document}
use Rattle.graphql_tree.proofs.UnlocatedEquations.{unlocated_selection_field, unlocated_selection_spread, unlocated_selection_inline, unlocated_in_field, unlocated_in_inline}
use Rattle.graphql_value_syntax.proofs.Places.{even_placed, even_expect, even_name, even_arguments, even_directives, even_variables}

-- ---- names of fields and fragments

abbrev unlocated_names : AliasedName → AliasedName
unlocated_names ns = (option_map unlocated_name ns.0, unlocated_name ns.1)

even_field_names : Even unlocated_names field_names field_names
unfolding field_names
even_field_names = even_bind even_name (λ a b h. even_when (only k.Colon)
    (even_bind (even_expect k.Colon) (λ u w e. even_made (λ x. (Some a, x)) (λ x. (Some b, x)) (λ x y l. ap₂ (λ c n. (Some c, n)) h l) even_name))
    (even_pure (ap (λ n. (None, n)) h)))

even_fragment_name : Even unlocated_name (located (name_in fragment_names)) (located (name_in fragment_names))
even_fragment_name = even_placed {see = λ n. n} (even_token fragment_names name_of)

even_condition : Even unlocated_name type_condition type_condition
unfolding type_condition
even_condition = even_bind (even_expect k.On) (λ u w e. even_name)

-- ---- trees that differ in the places of their parts

module _ {S : Type 0} where
  abbrev unlocated_behind : Spread S → Spread S
  unlocated_behind (spreads x) = spreads (unlocated_spread x)
  unlocated_behind (inlines x) = inlines (unlocated_inline x)

  made_alone : (x : Spread S) (at : At (Spread S)) → unlocated_selection (made_spread x at) ≡ made_spread (unlocated_behind x) (unplaced (unlocated_behind x))
  made_alone (spreads x) at = unlocated_selection_spread (record { item = x; span = at.span })
  made_alone (inlines x) at = unlocated_selection_inline (record { item = x; span = at.span })

  selection_alone : (x : At (Spread S)) → unlocated_selection (selection_of x) ≡ selection_of (without_place unlocated_behind x)
  selection_alone x = made_alone x.item x

  same_inline : (c e : Option (At (List ℕ))) (ds es : Option (List (At (Directive S)))) (xs ys : List (Selection S)) → option_map unlocated_name c ≡ option_map unlocated_name e
      → unlocated_directives ds ≡ unlocated_directives es → map unlocated_selection xs ≡ map unlocated_selection ys
      → unlocated_inline (record { type_condition = c; directives = ds; selection_set = xs }) ≡ unlocated_inline (record { type_condition = e; directives = es; selection_set = ys })
  same_inline c e ds es xs ys h l r = unlocated_in_inline (record { type_condition = c; directives = ds; selection_set = xs }) ∙ (cc) ∙ sym (unlocated_in_inline (record { type_condition = e; directives = es; selection_set = ys }))

  same_field : (ns ms : AliasedName) (args more : Option (At (Arguments S))) (ds es : Option (List (At (Directive S)))) (xs ys : Option (List (Selection S))) → unlocated_names ns ≡ unlocated_names ms
      → option_map (without_place unlocated_arguments) args ≡ option_map (without_place unlocated_arguments) more → unlocated_directives ds ≡ unlocated_directives es
      → option_map (map unlocated_selection) xs ≡ option_map (map unlocated_selection) ys → unlocated_field (made_field ns args ds xs) ≡ unlocated_field (made_field ms more es ys)
  same_field ns ms args more ds es xs ys h g l r = let alias = ap (λ (z : AliasedName). z.0) h in let own = ap (λ (z : AliasedName). z.1) h in
      unlocated_in_field (made_field ns args ds xs) ∙ (cc) ∙ sym (unlocated_in_field (made_field ms more es ys))

module _ {S : Type 0} (reads : ScalarToken → Result S ParseError) (of_bool : Bool → S) where
  -- ---- selections

  even_fragment_spread : Even unlocated_behind (fragment_spread reads of_bool) (fragment_spread reads of_bool)
  unfolding fragment_spread
  even_fragment_spread = even_bind even_fragment_name (λ n o h. even_made (λ ds. spreads (record { name = n; directives = ds })) (λ ds. spreads (record { name = o; directives = ds }))
      (λ x y l. ap₂ (λ a b. spreads (record { name = a; directives = b })) h l) (even_directives reads of_bool false))

  module _ (p : Parser (Selection S)) (one : Even unlocated_selection p p) where
    even_set_of : Even (map unlocated_selection) (selection_set reads of_bool p) (selection_set reads of_bool p)
    unfolding selection_set
    even_set_of = even_some_between one k.CurlyClose k.CurlyOpen

    even_inline : Even unlocated_behind (inline_fragment reads of_bool p) (inline_fragment reads of_bool p)
    unfolding inline_fragment
    even_inline = even_bind (even_optional (only k.On) even_condition) (λ c e h. even_bind (even_directives reads of_bool false) (λ ds es l.
        even_made (λ xs. inlines (record { type_condition = c; directives = ds; selection_set = xs })) (λ xs. inlines (record { type_condition = e; directives = es; selection_set = xs }))
        (λ xs ys r. ap inlines (same_inline c e ds es xs ys h l r)) even_set_of))

    even_spread : Even (without_place unlocated_behind) (spread reads of_bool p) (spread reads of_bool p)
    unfolding spread
    even_spread = even_placed (even_bind (even_expect k.Ellipsis) (λ u w e. even_when fragment_names even_fragment_spread even_inline))

    even_field : Even unlocated_field (field reads of_bool p) (field reads of_bool p)
    unfolding field
    even_field = even_bind even_field_names (λ ns ms h. even_bind (even_optional (only k.ParenOpen) (even_arguments reads of_bool false)) (λ args more g. even_bind (even_directives reads of_bool false) (λ ds es l.
        even_made (made_field ns args ds) (made_field ms more es) (λ xs ys r. same_field ns ms args more ds es xs ys h g l r) (even_optional (only k.CurlyOpen) even_set_of))))

    even_layer : Even unlocated_selection (selection_layer reads of_bool p) (selection_layer reads of_bool p)
    unfolding selection_layer
    even_layer = even_when (only k.Ellipsis) (even_made selection_of selection_of (λ x y h. selection_alone x ∙ ap selection_of h ∙ sym (selection_alone y)) even_spread)
        (even_made s.Field s.Field (λ x y h. unlocated_selection_field x ∙ ap s.Field h ∙ sym (unlocated_selection_field y)) (even_placed even_field))

  even_selection_from : (n : ℕ) → Even unlocated_selection (selection_from reads of_bool n) (selection_from reads of_bool n)
  unfolding selection_from
  even_selection_from zero = even_refuse
  even_selection_from (suc n) = even_layer (selection_from reads of_bool n) (even_selection_from n)

  pub even_selection : Even unlocated_selection (selection reads of_bool) (selection reads of_bool)
  unfolding selection
  even_selection = even_levels (selection_from reads of_bool) even_selection_from

  -- ---- definitions

  even_set : Even (map unlocated_selection) (set reads of_bool) (set reads of_bool)
  even_set = even_set_of (selection reads of_bool) even_selection

  even_full : Even unlocated_operation (full_operation reads of_bool) (full_operation reads of_bool)
  unfolding full_operation
  even_full = even_bind {see = λ t. t} (even_token operation_words operation_type_of) (λ t o h. even_bind (even_optional names even_name) (λ n m l.
      even_bind (even_optional (only k.ParenOpen) (even_variables reads of_bool)) (λ vs ws g. even_bind (even_directives reads of_bool false) (λ ds es q.
      even_made (λ xs. record { operation_type = t; name = n; variable_definitions = vs; directives = ds; selection_set = xs })
      (λ xs. record { operation_type = o; name = m; variable_definitions = ws; directives = es; selection_set = xs }) (λ xs ys r. cc) even_set))))

  even_operation : Even (without_place unlocated_operation) (operation reads of_bool) (operation reads of_bool)
  unfolding operation
  even_operation = even_placed (even_when (only k.CurlyOpen) (even_made query_of query_of (λ xs ys h. ap query_of h) even_set) even_full)

  even_fragment : Even (without_place unlocated_fragment) (fragment reads of_bool) (fragment reads of_bool)
  unfolding fragment
  even_fragment = even_placed (even_bind (even_expect k.Fragment) (λ u w z. even_bind even_fragment_name (λ n m h. even_bind even_condition (λ c e l. even_bind (even_directives reads of_bool false) (λ ds es q.
      even_made (λ xs. record { name = n; type_condition = c; directives = ds; selection_set = xs }) (λ xs. record { name = m; type_condition = e; directives = es; selection_set = xs }) (λ xs ys r. cc) even_set)))))

  even_definition : Even unlocated_definition (definition reads of_bool) (definition reads of_bool)
  unfolding definition
  even_definition = even_when (only k.Fragment) (even_made d.Fragment d.Fragment (λ x y h. ap d.Fragment h) even_fragment) (even_made d.Operation d.Operation (λ x y h. ap d.Operation h) even_operation)

  pub even_document : Even unlocated_document (document reads of_bool) (document reads of_bool)
  unfolding document
  even_document = even_bind even_definition (λ x y h. even_bind (even_all even_definition definition_kinds (x ∷ []) (y ∷ []) (ap (λ z. z ∷ []) h)) (λ xs ys l. even_finished xs ys l))
