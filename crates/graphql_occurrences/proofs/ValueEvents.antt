-- The events of a value, form by form.
use Rattle.std.proofs.Common.{◌≡◌, List, [], map, sym, ap, ◌∙◌}
use Rattle.std.proofs.lemmas.Simd.{map-map}
use Rattle.std.proofs.lemmas.List.Folds.{flat_map-map}
use Rattle.graphql_text.specs.declared.position.Span.{Span}
use Rattle.graphql_text.specs.declared.text.Text.{Text}
use Rattle.graphql_values.specs.InputValues.{Placed, Pair}
use Rattle.graphql_values.specs.declared.input_value.InputValue.{InputValue}
use Rattle.graphql_values.specs.declared.input_value.InputValue.TheOpen.{InputValue-F}
use Rattle.graphql_values.specs.declared.input_value.InputValue.TheVariants as value
use Rattle.graphql_values.proofs.InputValueEquations.{on_item, on_value, fold_null, fold_scalar, fold_enum, fold_variable, fold_list, fold_object}
use Rattle.graphql_values.proofs.InputValueInduction.{value_ind}
use Rattle.graphql_occurrences.specs.DeclaredLookups.{Declarations}
use Rattle.graphql_occurrences.specs.Nodes.{Around, Seen, Inner, AtValue, value_head_layer, nulled}
use Rattle.graphql_occurrences.specs.Nodes.{value_head}
use Rattle.graphql_occurrences.specs.Events.{through, through_each, value_within, value_layer, item_layer, pair_layer, item_events, pair_events, content_of, content_events}

module _ {S C : Type 0} (schema : Declarations S C) where
  pub content_list : (xs : List (Placed (InputValue S))) (around : Around S C) → content_events schema (value.List xs) around ≡ through_each (item_events schema) xs around
  content_list xs around = ap (λ m. content_of schema m around) (value.outs-List xs)

  pub content_object : (ps : List (Pair (InputValue S))) (around : Around S C) → content_events schema (value.Object ps) around ≡ through_each (pair_events schema) ps around
  content_object ps around = ap (λ m. content_of schema m around) (value.outs-Object ps)

  pub content_null : (around : Around S C) → content_events schema value.Null around ≡ []
  content_null around = ap (λ m. content_of schema m around) value.outs-Null

  pub content_scalar : (s : S) (around : Around S C) → content_events schema (value.Scalar s) around ≡ []
  content_scalar s around = ap (λ m. content_of schema m around) (value.outs-Scalar s)

  pub content_enum : (n : Text) (around : Around S C) → content_events schema (value.Enum n) around ≡ []
  content_enum n around = ap (λ m. content_of schema m around) (value.outs-Enum n)

  pub content_variable : (n : Text) (around : Around S C) → content_events schema (value.Variable n) around ≡ []
  content_variable n around = ap (λ m. content_of schema m around) (value.outs-Variable n)

pub ruleset content_laws = (content_list, content_object, content_null, content_scalar, content_enum, content_variable)

module _ {S C : Type 0} (schema : Declarations S C) where
  -- a value is entered, then what is within it, and then it is left
  abbrev Opened : InputValue S → Type 0
  Opened v = (span : Span) (around : Around S C) → value_within schema v span around ≡ through (Inner (AtValue (record { item = value_head v; span = span }))) (content_events schema v around) around

  -- what a layer gives is what the value itself gives
  abbrev at_layer : InputValue-F S (InputValue S) → Span → Around S C → List (Seen S C)
  at_layer m span around = through (Inner (AtValue (record { item = value_head_layer m; span = span }))) (content_of schema m around) around

  pub value_is : (v : InputValue S) → Opened v
  unfolding value_within
  value_is = value_ind Opened
      (λ span around. (λ i. fold_null (value_layer schema) i span around) ∙ ap (λ m. at_layer m span around) (sym value.outs-Null))
      (λ s span around. (λ i. fold_scalar (value_layer schema) s i span around) ∙ ap (λ m. at_layer m span around) (sym (value.outs-Scalar s)))
      (λ n span around. (λ i. fold_enum (value_layer schema) n i span around) ∙ ap (λ m. at_layer m span around) (sym (value.outs-Enum n)))
      (λ n span around. (λ i. fold_variable (value_layer schema) n i span around) ∙ ap (λ m. at_layer m span around) (sym (value.outs-Variable n)))
      (λ xs h span around.
      (λ i. fold_list (value_layer schema) xs i span around)
      ∙ ap (λ heads. through (Inner (AtValue (record { item = value.List heads; span = span }))) (through_each (item_layer schema) (map (on_item (value_within schema)) xs) around) around) (map-map nulled (on_item (value_within schema)) xs)
      ∙ ap (λ es. through (Inner (AtValue (record { item = value.List (map nulled xs); span = span }))) es around) (flat_map-map (λ x. item_layer schema x around) (on_item (value_within schema)) xs)
      ∙ ap (λ m. at_layer m span around) (sym (value.outs-List xs)))
      (λ ps h span around.
      (λ i. fold_object (value_layer schema) ps i span around)
      ∙ ap (λ heads. through (Inner (AtValue (record { item = value.Object heads; span = span }))) (through_each (pair_layer schema) (map (on_value (value_within schema)) ps) around) around) (map-map (λ p. (p.0, nulled p.1)) (on_value (value_within schema)) ps)
      ∙ ap (λ es. through (Inner (AtValue (record { item = value.Object (map (λ p. (p.0, nulled p.1)) ps); span = span }))) es around) (flat_map-map (λ p. pair_layer schema p around) (on_value (value_within schema)) ps)
      ∙ ap (λ m. at_layer m span around) (sym (value.outs-Object ps)))
