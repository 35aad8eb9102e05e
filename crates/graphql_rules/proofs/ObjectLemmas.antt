-- What is said of an object.
use Rattle.std.proofs.Common.{◌≡◌, List, map, sym, ap, ◌∙◌, append-nil}
use Rattle.std.specs.List.{flat_map}
use Rattle.std.proofs.lemmas.Simd.{map-map}
use Rattle.graphql_text.specs.declared.position.SourcePosition.{SourcePosition}
use Rattle.graphql_values.specs.InputValues.{Pair}
use Rattle.graphql_values.specs.declared.input_value.InputValue.{InputValue, out-InputValue}
use Rattle.graphql_values.specs.declared.input_value.InputValue.TheOpen.{InputValue-F}
use Rattle.graphql_values.specs.declared.input_value.InputValue.TheVariants as value
use Rattle.graphql_occurrences.specs.Nodes.{Around, nulled, value_head, value_head_layer}
use Rattle.graphql_occurrences.specs.PartsOf.{parts_of_value}
use Rattle.graphql_rule_errors.specs.Places.{Places}
use Rattle.graphql_visitors.specs.Subjects.{Subject}
use Rattle.graphql_rule_errors.specs.Repeats.{mention, repeats}
use Rattle.graphql_rules.specs.UniqueInputFieldNames.{unique_input_field_names_faults}

module _ {S C : Type 0} (around : Around S C) (subject : Subject S C) where
  abbrev told_of : InputValue-F S (InputValue S) → SourcePosition → Places
  told_of v start = flat_map (unique_input_field_names_faults subject) (parts_of_value v start around.input)

  abbrev out : InputValue S → InputValue-F S (InputValue S)
  out = out-InputValue S

  abbrev emptied : Pair (InputValue S) → Pair (InputValue S)
  emptied p = (p.0, nulled p.1)

  -- of an object it is said what its fields' names repeat
  pub object_told : (v : InputValue S) (start : SourcePosition) (pairs : List (Pair (InputValue S))) → v ≡ value.Object pairs → repeats (map (λ p. mention p.0) pairs) ≡ told_of (out (value_head v)) start
  object_told v start pairs is =
      ap repeats (sym (ap (map mention) (map-map (λ p. p.0) emptied pairs) ∙ map-map mention (λ (p : Pair (InputValue S)). p.0) pairs))
      ∙ sym (append-nil (repeats (map mention (map (λ p. p.0) (map emptied pairs)))))
      ∙ sym (ap (λ x. told_of (out (value_head_layer x)) start) (ap out is ∙ value.outs-Object pairs) ∙ ap (λ x. told_of x start) (value.outs-Object (map emptied pairs)))
