-- The JSON of a value, by that of its steps.
use Rattle.std.proofs.Common.{◌≡◌, ℕ, List, [], ◌∷◌, ◌++◌, map, codes, sym, ap, refl, ◌∙◌, get_or, append_assoc, append-nil}
use Rattle.std.specs.List.{All, flat_map, join_by}
use Rattle.std.proofs.lemmas.Grind.{flat_map-append}
use Rattle.std.proofs.lemmas.Simd.{map-map}
use Rattle.graphql_output_values.specs.declared.object.Object.{Object}
use Rattle.graphql_output_values.specs.declared.value.Value.{Value}
use Rattle.graphql_output_values.specs.declared.value.Value.TheVariants as value
use Rattle.graphql_output_values.specs.Objects.{Pair}
use Rattle.graphql_output_values.specs.Steps.{Step, ListCloses, ObjectCloses, Gap, field_steps, steps}
use Rattle.graphql_output_values.specs.ValueEquations.{on_value, fold_null, fold_scalar, fold_list, fold_object, fold_fields}
use Rattle.graphql_output_values.specs.ValueInduction.{value_ind}
use Rattle.graphql_values.proofs.JoinedParts.{joined_same, joined_texts}
use Rattle.graphql_output_values.proofs.StepLemmas.{steps-null, steps-scalar, steps-list, steps-object}
use Rattle.graphql_json.specs.Json.{joined, json_text, member_json, scalar_json, json, object_json, json_layer, fields_layer, step_json}
use Rattle.graphql_scalars.specs.ScalarAnswers.{ScalarAnswer}

module _ {A : Type 0} (part : A → List ℕ) where
  behind_commas : (xs : List A) → flat_map (λ x. codes "," ++ part x) xs ≡ joined (codes ",") (map part xs)
  behind_commas [] = refl
  behind_commas (x ∷ xs) = ap (λ r. codes "," ++ (part x ++ r)) (behind_commas xs)

  -- parts with a comma between any two
  pub joined_by_commas : (xs : List A) → join_by part (codes ",") xs ≡ joined [] (map part xs)
  joined_by_commas [] = refl
  joined_by_commas (x ∷ xs) = ap (λ r. part x ++ r) (behind_commas xs)

module _ {S : Type 0} (answer : S → ScalarAnswer) where
  -- the JSON of a field
  abbrev member : Pair (Value S) → List ℕ
  member p = member_json (p.0, json answer p.1)

  -- the JSON of an object, by its members
  pub object_is : (o : Object S) → object_json answer o ≡ 123 ∷ joined [] (map (λ p. member_json (p.0, json answer p.1)) o.fields) ++ 125 ∷ []
  object_is o =
      fold_fields (json_layer answer) (fields_layer answer) o
      ∙ ap (λ ms. 123 ∷ joined [] ms ++ 125 ∷ []) (map-map member_json (on_value (json answer)) o.fields)

  abbrev texts : List (Step S) → List ℕ
  texts = flat_map (step_json answer)

  abbrev IsJson : Value S → Type 0
  IsJson v = texts (steps v) ≡ json answer v

  field_told : (p : Pair (Value S)) → IsJson p.1 → texts (field_steps steps p) ≡ member p
  field_told p is = append_assoc (json_text p.0) (codes ":") (texts (steps p.1)) ∙ ap (λ t. json_text p.0 ++ (codes ":" ++ t)) is

  list_told : (xs : List (Value S)) → All IsJson xs → IsJson (value.List xs)
  list_told xs are =
      ap texts (steps-list xs)
      ∙ ap (λ t. codes "[" ++ t) (flat_map-append (step_json answer) (join_by steps (Gap ∷ []) xs) (ListCloses ∷ []))
      ∙ ap (λ t. codes "[" ++ (t ++ codes "]"))
      (joined_texts (step_json answer) steps (Gap ∷ []) xs
      ∙ joined_same (λ v. texts (steps v)) (json answer) (codes ",") xs are
      ∙ joined_by_commas (json answer) xs)
      ∙ sym (fold_list (json_layer answer) (fields_layer answer) xs)

  object_told : (o : Object S) → All (λ (p : Pair (Value S)). IsJson p.1) o.fields → IsJson (value.Object o)
  object_told o are =
      ap texts (steps-object o)
      ∙ ap (λ t. codes "{" ++ t) (flat_map-append (step_json answer) (join_by (field_steps steps) (Gap ∷ []) o.fields) (ObjectCloses ∷ []))
      ∙ ap (λ t. codes "{" ++ (t ++ codes "}"))
      (joined_texts (step_json answer) (field_steps steps) (Gap ∷ []) o.fields
      ∙ joined_same (λ p. texts (field_steps steps p)) member (codes ",") o.fields (λ k d h. field_told (get_or o.fields k d) (are k d h))
      ∙ joined_by_commas member o.fields)
      ∙ sym (fold_object (json_layer answer) (fields_layer answer) o ∙ object_is o)

  pub steps_are_json : (v : Value S) → texts (steps v) ≡ json answer v
  steps_are_json = value_ind IsJson
      (ap texts steps-null ∙ sym (fold_null (json_layer answer) (fields_layer answer)))
      (λ s. ap texts (steps-scalar s) ∙ append-nil (scalar_json answer s) ∙ sym (fold_scalar (json_layer answer) (fields_layer answer) s))
      list_told
      object_told
