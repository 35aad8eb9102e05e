-- By two readings of scalars documents are read alike, up to the first scalar that one of them refuses.
use Rattle.std.proofs.Common.{ℕ, zero, suc, Bool, false, [], ◌∷◌, Some, None}
use Rattle.graphql_grammar.specs.declared.kind.Kind.TheVariants as k
use Rattle.graphql_grammar.specs.Kinds.{only, names, fragment_names}
use Rattle.graphql_grammar.specs.Input.{Parser}
use Rattle.graphql_grammar.specs.Steps.{name_of, name_in, located}
use Rattle.graphql_grammar.specs.Faults.{Reading}
use Rattle.graphql_grammar.proofs.Readings.{Twins, twins_pure, twins_refuse, twins_bind, twins_made, twins_located, twins_when, twins_token, twins_expect, twins_optional, twins_finished, twins_all, twins_some_between, twins_levels}
use Rattle.graphql_tree.specs.declared.selection.Selection.{Selection}
use Rattle.graphql_tree.specs.declared.selection.Selection.TheVariants as s
use Rattle.graphql_tree.specs.declared.document.Definition.TheVariants as d
use Rattle.graphql_value_syntax.proofs.Readings.{twins_name, twins_arguments, twins_directives, twins_variables}
use Rattle.graphql_language.specs.ReadSelections.{field_names, type_condition, spreads, inlines, selection_of, fragment_spread, made_field, selection_set, inline_fragment, spread, field, selection_layer, selection_from, selection}
use Rattle.graphql_language.specs.ReadDocuments.{operation_words, operation_type_of, definition_kinds, query_of, set, full_operation, operation, fragment, definition, document}

module _ {S : Type 0} (q r : Reading S) (of_bool : Bool → S) where
  -- ---- names of fields and fragments

  twins_field_names : Twins q r field_names field_names
  unfolding field_names
  twins_field_names = twins_bind q r (twins_name q r of_bool) (λ a b. twins_when q r (only k.Colon)
      (twins_bind q r (twins_expect q r k.Colon) (λ u z. twins_made q r (λ x. (Some a, x)) (λ x. (Some b, x)) (twins_name q r of_bool))) (twins_pure q r (None, a) (None, b)))

  twins_fragment_name : Twins q r (located (name_in fragment_names)) (located (name_in fragment_names))
  twins_fragment_name = twins_located q r (twins_token q r fragment_names name_of)

  twins_condition : Twins q r type_condition type_condition
  unfolding type_condition
  twins_condition = twins_bind q r (twins_expect q r k.On) (λ u z. twins_name q r of_bool)

  -- ---- selections

  twins_fragment_spread : Twins q r (fragment_spread q of_bool) (fragment_spread r of_bool)
  unfolding fragment_spread
  twins_fragment_spread = twins_bind q r twins_fragment_name (λ n o. twins_made q r (λ ds. spreads (record { name = n; directives = ds })) (λ ds. spreads (record { name = o; directives = ds })) (twins_directives q r of_bool false))

  module _ (p w : Parser (Selection S)) (one : Twins q r p w) where
    twins_set_of : Twins q r (selection_set q of_bool p) (selection_set r of_bool w)
    unfolding selection_set
    twins_set_of = twins_some_between q r one k.CurlyClose k.CurlyOpen

    twins_inline : Twins q r (inline_fragment q of_bool p) (inline_fragment r of_bool w)
    unfolding inline_fragment
    twins_inline = twins_bind q r (twins_optional q r (only k.On) twins_condition) (λ c e. twins_bind q r (twins_directives q r of_bool false) (λ ds es.
        twins_made q r (λ xs. inlines (record { type_condition = c; directives = ds; selection_set = xs })) (λ xs. inlines (record { type_condition = e; directives = es; selection_set = xs })) twins_set_of))

    twins_spread : Twins q r (spread q of_bool p) (spread r of_bool w)
    unfolding spread
    twins_spread = twins_located q r (twins_bind q r (twins_expect q r k.Ellipsis) (λ u z. twins_when q r fragment_names twins_fragment_spread twins_inline))

    twins_field : Twins q r (field q of_bool p) (field r of_bool w)
    unfolding field
    twins_field = twins_bind q r twins_field_names (λ ns ms. twins_bind q r (twins_optional q r (only k.ParenOpen) (twins_arguments q r of_bool false)) (λ args more. twins_bind q r (twins_directives q r of_bool false) (λ ds es.
        twins_made q r (made_field ns args ds) (made_field ms more es) (twins_optional q r (only k.CurlyOpen) twins_set_of))))

    twins_layer : Twins q r (selection_layer q of_bool p) (selection_layer r of_bool w)
    unfolding selection_layer
    twins_layer = twins_when q r (only k.Ellipsis) (twins_made q r selection_of selection_of twins_spread) (twins_made q r s.Field s.Field (twins_located q r twins_field))

  twins_selection_from : (n : ℕ) → Twins q r (selection_from q of_bool n) (selection_from r of_bool n)
  unfolding selection_from
  twins_selection_from zero = twins_refuse q r
  twins_selection_from (suc n) = twins_layer (selection_from q of_bool n) (selection_from r of_bool n) (twins_selection_from n)

  twins_selection : Twins q r (selection q of_bool) (selection r of_bool)
  unfolding selection
  twins_selection = twins_levels q r (selection_from q of_bool) (selection_from r of_bool) twins_selection_from

  -- ---- definitions

  twins_set : Twins q r (set q of_bool) (set r of_bool)
  twins_set = twins_set_of (selection q of_bool) (selection r of_bool) twins_selection

  twins_full : Twins q r (full_operation q of_bool) (full_operation r of_bool)
  unfolding full_operation
  twins_full = twins_bind q r (twins_token q r operation_words operation_type_of) (λ t o. twins_bind q r (twins_optional q r names (twins_name q r of_bool)) (λ n m.
      twins_bind q r (twins_optional q r (only k.ParenOpen) (twins_variables q r of_bool)) (λ vs ws. twins_bind q r (twins_directives q r of_bool false) (λ ds es.
      twins_made q r (λ xs. record { operation_type = t; name = n; variable_definitions = vs; directives = ds; selection_set = xs })
      (λ xs. record { operation_type = o; name = m; variable_definitions = ws; directives = es; selection_set = xs }) twins_set))))

  twins_operation : Twins q r (operation q of_bool) (operation r of_bool)
  unfolding operation
  twins_operation = twins_located q r (twins_when q r (only k.CurlyOpen) (twins_made q r query_of query_of twins_set) twins_full)

  twins_fragment : Twins q r (fragment q of_bool) (fragment r of_bool)
  unfolding fragment
  twins_fragment = twins_located q r (twins_bind q r (twins_expect q r k.Fragment) (λ u z. twins_bind q r twins_fragment_name (λ n m. twins_bind q r twins_condition (λ c e. twins_bind q r (twins_directives q r of_bool false) (λ ds es.
      twins_made q r (λ xs. record { name = n; type_condition = c; directives = ds; selection_set = xs }) (λ xs. record { name = m; type_condition = e; directives = es; selection_set = xs }) twins_set)))))

  twins_definition : Twins q r (definition q of_bool) (definition r of_bool)
  unfolding definition
  twins_definition = twins_when q r (only k.Fragment) (twins_made q r d.Fragment d.Fragment twins_fragment) (twins_made q r d.Operation d.Operation twins_operation)

  pub twins_document : Twins q r (document q of_bool) (document r of_bool)
  unfolding document
  twins_document = twins_bind q r twins_definition (λ x y. twins_bind q r (twins_all q r twins_definition definition_kinds (x ∷ []) (y ∷ [])) (λ xs ys. twins_finished q r xs ys))
