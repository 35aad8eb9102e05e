-- The texts of a value's steps, one after the other, are its text.
use Rattle.std.proofs.Common.{◌≡◌, ℕ, List, [], ◌∷◌, ◌++◌, ap, sym, ◌∙◌, append_assoc, append-nil}
use Rattle.std.specs.Prelude.{codes}
use Rattle.std.specs.List.{All, flat_map, join_by}
use Rattle.std.proofs.lemmas.Grind.{flat_map-append}
use Rattle.graphql_scalars.specs.ScalarAnswers.{ScalarAnswer}
use Rattle.graphql_scalars.specs.ScalarText.{quoted_text, scalar_text}
use Rattle.graphql_output_values.specs.declared.object.Object.{Object}
use Rattle.graphql_output_values.specs.declared.value.Value.{Value}
use Rattle.graphql_output_values.specs.declared.value.Value.TheVariants as value
use Rattle.graphql_output_values.specs.Objects.{Pair}
use Rattle.graphql_output_values.specs.Steps.{Step, ListCloses, ObjectCloses, Gap, field_steps, steps}
use Rattle.graphql_output_values.specs.ValueInduction.{value_ind}
use Rattle.graphql_output_values.specs.ValueText.{field_text, step_text, value_text}
use Rattle.graphql_values.proofs.JoinedParts.{joined_same, joined_texts}
use Rattle.graphql_output_values.proofs.StepLemmas.{steps-null, steps-scalar, steps-list, steps-object}
use Rattle.graphql_output_values.proofs.ValueTextLemmas.{value_text-null, value_text-scalar, value_text-list, value_text-object}

module _ {S : Type 0} (answer : S → ScalarAnswer) where
  abbrev texts : List (Step S) → List ℕ
  texts = flat_map (step_text answer)

  abbrev IsText : Value S → Type 0
  IsText v = texts (steps v) ≡ value_text answer v

  -- the text of a field's steps
  field_told : (field : Pair (Value S)) → IsText field.1 → texts (field_steps steps field) ≡ field_text (value_text answer) field
  field_told field is = append_assoc (codes "\"" ++ field.0 ++ codes "\"") (codes ": ") (texts (steps field.1)) ∙ ap (λ t. quoted_text field.0 ++ (codes ": " ++ t)) is

  list_told : (xs : List (Value S)) → All IsText xs → IsText (value.List xs)
  list_told xs are =
      ap texts (steps-list xs)
      ∙ ap (λ t. codes "[" ++ t) (flat_map-append (step_text answer) (join_by steps (Gap ∷ []) xs) (ListCloses ∷ []))
      ∙ ap (λ t. codes "[" ++ (t ++ codes "]")) (joined_texts (step_text answer) steps (Gap ∷ []) xs ∙ joined_same (λ v. texts (steps v)) (value_text answer) (codes ", ") xs are)
      ∙ sym (value_text-list answer xs)

  object_told : (o : Object S) → All (λ (field : Pair (Value S)). IsText field.1) o.fields → IsText (value.Object o)
  object_told o are =
      ap texts (steps-object o)
      ∙ ap (λ t. codes "{" ++ t) (flat_map-append (step_text answer) (join_by (field_steps steps) (Gap ∷ []) o.fields) (ObjectCloses ∷ []))
      ∙ ap (λ t. codes "{" ++ (t ++ codes "}"))
      (joined_texts (step_text answer) (field_steps steps) (Gap ∷ []) o.fields
      ∙ joined_same (λ field. texts (field_steps steps field)) (field_text (value_text answer)) (codes ", ") o.fields (λ k d h. field_told _ (are k d h)))
      ∙ sym (value_text-object answer o)

  pub steps_are_text : (v : Value S) → texts (steps v) ≡ value_text answer v
  steps_are_text = value_ind IsText
      (ap texts steps-null ∙ sym (value_text-null answer))
      (λ s. ap texts (steps-scalar s) ∙ append-nil (scalar_text (answer s)) ∙ sym (value_text-scalar answer s))
      list_told
      object_told
