-- The steps of an input value, form by form, their texts, and the variables that they tell.
use Rattle.std.proofs.Common.{◌≡◌, ℕ, List, [], ◌∷◌, ◌++◌, get_or, ap, sym, refl, ◌∙◌, append-nil}
use Rattle.std.specs.Prelude.{codes}
use Rattle.std.specs.List.{All, flat_map, join_by}
use Rattle.std.proofs.lemmas.Grind.{flat_map-append}
use Rattle.graphql_values.proofs.JoinedParts.{joined_map, joined_same, joined_texts}
use Rattle.graphql_text.specs.declared.text.Text.{Text}
use Rattle.graphql_scalars.specs.ScalarAnswers.{ScalarAnswer}
use Rattle.graphql_scalars.specs.ScalarText.{scalar_text}
use Rattle.graphql_values.specs.declared.input_value.InputValue.{InputValue}
use Rattle.graphql_values.specs.declared.input_value.InputValue.TheVariants as value
use Rattle.graphql_values.specs.InputValues.{Placed, Pair}
use Rattle.graphql_values.specs.InputValueText.{layer_text, input_value_text, item_text, field_text, step_text}
use Rattle.graphql_values.specs.Steps.{Step, Variable, ListOpens, ListCloses, ObjectOpens, ObjectCloses, Gap, item_steps, field_steps, steps_layer, steps, items_steps, fields_steps}
use Rattle.graphql_values.specs.Variables.{names_of_variables, variables_layer}
use Rattle.graphql_values.proofs.InputValueEquations.{on_item, on_value, fold_null, fold_scalar, fold_enum, fold_variable, fold_list, fold_object}
use Rattle.graphql_values.proofs.InputValueInduction.{value_ind}
use Rattle.graphql_values.proofs.InputValueTextLemmas.{input_value_text-list, input_value_text-object}
use Rattle.graphql_values.proofs.VariableLemmas.{variables_in_list, variables_in_object}

module _ {S : Type 0} where
  pub steps-list : (xs : List (Placed (InputValue S))) → steps (value.List xs) ≡ ListOpens ∷ items_steps xs
  steps-list xs = fold_list steps_layer xs ∙ ap (λ parts. ListOpens ∷ (parts ++ ListCloses ∷ [])) (joined_map (item_steps (λ part. part)) (Gap ∷ []) (on_item steps) xs)

  pub steps-object : (ps : List (Pair (InputValue S))) → steps (value.Object ps) ≡ ObjectOpens ∷ fields_steps ps
  steps-object ps = fold_object steps_layer ps ∙ ap (λ parts. ObjectOpens ∷ (parts ++ ObjectCloses ∷ [])) (joined_map (field_steps (λ part. part)) (Gap ∷ []) (on_value steps) ps)

-- the texts of a value's steps, one after the other, are its text
module _ {S : Type 0} (answer : S → ScalarAnswer) where
  abbrev texts : List (Step S) → List ℕ
  texts = flat_map (step_text answer)

  abbrev IsText : InputValue S → Type 0
  IsText v = texts (steps v) ≡ input_value_text answer v

  field_told : (p : Pair (InputValue S)) → IsText p.1.item → texts (field_steps steps p) ≡ field_text answer p
  field_told p is = ap (λ t. p.0.item ++ codes ": " ++ t) is

  list_told : (xs : List (Placed (InputValue S))) → All (λ (x : Placed (InputValue S)). IsText x.item) xs → IsText (value.List xs)
  list_told xs are =
      ap texts (steps-list xs)
      ∙ ap (λ t. codes "[" ++ t) (flat_map-append (step_text answer) (join_by (item_steps steps) (Gap ∷ []) xs) (ListCloses ∷ []))
      ∙ ap (λ t. codes "[" ++ (t ++ codes "]")) (joined_texts (step_text answer) (item_steps steps) (Gap ∷ []) xs ∙ joined_same (λ x. texts (item_steps steps x)) (item_text answer) (codes ", ") xs are)
      ∙ sym (input_value_text-list answer xs)

  object_told : (ps : List (Pair (InputValue S))) → All (λ (p : Pair (InputValue S)). IsText p.1.item) ps → IsText (value.Object ps)
  object_told ps are =
      ap texts (steps-object ps)
      ∙ ap (λ t. codes "{" ++ t) (flat_map-append (step_text answer) (join_by (field_steps steps) (Gap ∷ []) ps) (ObjectCloses ∷ []))
      ∙ ap (λ t. codes "{" ++ (t ++ codes "}"))
      (joined_texts (step_text answer) (field_steps steps) (Gap ∷ []) ps
      ∙ joined_same (λ p. texts (field_steps steps p)) (field_text answer) (codes ", ") ps (λ k d h. field_told (get_or ps k d) (are k d h)))
      ∙ sym (input_value_text-object answer ps)

  pub steps_are_text : (v : InputValue S) → texts (steps v) ≡ input_value_text answer v
  steps_are_text = value_ind IsText
      (ap texts (fold_null steps_layer) ∙ sym (fold_null (layer_text answer)))
      (λ s. ap texts (fold_scalar steps_layer s) ∙ append-nil (scalar_text (answer s)) ∙ sym (fold_scalar (layer_text answer) s))
      (λ n. ap texts (fold_enum steps_layer n) ∙ append-nil n ∙ sym (fold_enum (layer_text answer) n))
      (λ n. ap texts (fold_variable steps_layer n) ∙ append-nil (codes "$" ++ n) ∙ sym (fold_variable (layer_text answer) n))
      list_told
      object_told

-- the variables that a step tells
abbrev pub told_variables : {S : Type 0} → Step S → List Text
told_variables (Variable name) = name ∷ []
told_variables _ = []

-- parts joined by nothing
joined_bare : {X A : Type 0} (f : X → List A) (xs : List X) → join_by f [] xs ≡ flat_map f xs
joined_bare f [] = refl
joined_bare f (x ∷ xs) = refl

module _ {S : Type 0} where
  abbrev variables : List (Step S) → List Text
  variables = flat_map told_variables

  abbrev TellsVariables : InputValue S → Type 0
  TellsVariables v = variables (steps v) ≡ names_of_variables v

  parts_tell :
      {X : Type 0} (part_steps : X → List (Step S)) (names_in : X → List Text) (end : Step S) (xs : List X) → told_variables end ≡ [] → All (λ x. variables (part_steps x) ≡ names_in x) xs
      → variables (join_by part_steps (Gap ∷ []) xs ++ end ∷ []) ≡ flat_map names_in xs
  parts_tell part_steps names_in end xs none are =
      flat_map-append told_variables (join_by part_steps (Gap ∷ []) xs) (end ∷ [])
      ∙ ap (λ ns. variables (join_by part_steps (Gap ∷ []) xs) ++ (ns ++ [])) none
      ∙ append-nil (variables (join_by part_steps (Gap ∷ []) xs))
      ∙ joined_texts told_variables part_steps (Gap ∷ []) xs
      ∙ joined_same (λ x. variables (part_steps x)) names_in [] xs are
      ∙ joined_bare names_in xs

  -- the variables that a value's steps tell are those that stand in it
  pub steps_tell_variables : (v : InputValue S) → variables (steps v) ≡ names_of_variables v
  steps_tell_variables = value_ind TellsVariables
      (ap variables (fold_null steps_layer) ∙ sym (fold_null variables_layer))
      (λ s. ap variables (fold_scalar steps_layer s) ∙ sym (fold_scalar variables_layer s))
      (λ n. ap variables (fold_enum steps_layer n) ∙ sym (fold_enum variables_layer n))
      (λ n. ap variables (fold_variable steps_layer n) ∙ sym (fold_variable variables_layer n))
      (λ xs are. ap variables (steps-list xs) ∙ parts_tell (item_steps steps) (λ x. names_of_variables x.item) ListCloses xs refl are ∙ sym (variables_in_list xs))
      (λ ps are. ap variables (steps-object ps) ∙ parts_tell (field_steps steps) (λ p. names_of_variables p.1.item) ObjectCloses ps refl are ∙ sym (variables_in_object ps))
