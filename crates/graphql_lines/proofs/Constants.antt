-- No variable stands in a value that data stands for.
use Rattle.std.proofs.Common.{◌≡◌, ℕ, ℤ, Bool, List, [], ◌∷◌, ◌++◌, Option, Some, None, option_map, option_and_then, refl, sym, ap, ap₂, ◌∙◌}
use Rattle.std.specs.List.{flat_map}
use Rattle.std.specs.Prelude.{⊤}
use Rattle.serde_json.specs.Data.{Data, null, boolean, number, string, array, object, Items, no_items, item, Members, no_members, member}
use Rattle.graphql_text.specs.declared.text.Text.{Text}
use Rattle.graphql_values.specs.declared.input_value.InputValue.{InputValue}
use Rattle.graphql_values.specs.declared.input_value.InputValue.TheVariants as value
use Rattle.graphql_values.specs.InputValues.{Placed, Pair, unplaced, unplaced_pair}
use Rattle.graphql_values.specs.Variables.{names_of_variables, variables_layer}
use Rattle.graphql_values.proofs.InputValueEquations.{fold_null, fold_scalar}
use Rattle.graphql_values.proofs.VariableLemmas.{variables_in_list, variables_in_object}
use Rattle.graphql_lines.specs.Variables.{whole_of, input_of, inputs_of, fields_of}
use Rattle.graphql_lines.specs.Laws.{JsonHoldsNoVariable}

-- what there is, if anything, has no names
abbrev Nameless : {A : Type 0} → (A → List Text) → Option A → Type 0
Nameless names None = ⊤
Nameless names (Some x) = names x ≡ []

Nameless-map : {A B : Type 0} (f : A → List Text) (g : B → List Text) (h : A → B) → ((x : A) → f x ≡ [] → g (h x) ≡ []) → (o : Option A) → Nameless f o → Nameless g (option_map h o)
Nameless-map f g h keeps None n = tt
Nameless-map f g h keeps (Some x) n = keeps x n

Nameless-cons : {A B : Type 0} (f : A → List Text) (g : B → List Text) (place : A → B) → ((x : A) → g (place x) ≡ f x) → (first : Option A) (rest : Option (List B)) → Nameless f first → Nameless (flat_map g) rest
    → Nameless (flat_map g) (option_and_then (λ x. option_map (λ xs. place x ∷ xs) rest) first)
Nameless-cons f g place same None rest n m = tt
Nameless-cons f g place same (Some x) None n m = tt
Nameless-cons f g place same (Some x) (Some xs) n m = ap₂ (λ a b. a ++ b) (same x ∙ n) m

Nameless-some : {A : Type 0} (f : A → List Text) (o : Option A) (x : A) → o ≡ Some x → Nameless f o → f x ≡ []
Nameless-some f None x e n = absurd (cc)
Nameless-some f (Some y) x e n = let same : y ≡ x = cc in sym (ap f same) ∙ n

anything_nameless : {A : Type 0} (o : Option A) → Nameless (λ _. []) o
anything_nameless None = tt
anything_nameless (Some x) = refl

module _ {S : Type 0} (of_bool : Bool → S) (of_int : ℤ → S) (of_text : List ℕ → S) where
  abbrev names : InputValue S → List Text
  names = names_of_variables {S = S}

  abbrev item_names : Placed (InputValue S) → List Text
  item_names x = names x.item

  abbrev pair_names : Pair (InputValue S) → List Text
  pair_names p = names p.1.item

  scalar_nameless : (s : S) → names (value.Scalar s) ≡ []
  scalar_nameless s = fold_scalar variables_layer s

  mutual
    nameless : (d : Data) → Nameless names (input_of of_bool of_int of_text d)
    nameless null = fold_null variables_layer
    nameless (boolean b) = scalar_nameless (of_bool b)
    nameless (number n) = Nameless-map (λ _. []) names (λ z. value.Scalar (of_int z)) (λ z e. scalar_nameless (of_int z)) (whole_of n) (anything_nameless (whole_of n))
    nameless (string s) = scalar_nameless (of_text s)
    nameless (array ds) = Nameless-map (flat_map item_names) names value.List (λ xs e. variables_in_list xs ∙ e) (inputs_of of_bool of_int of_text ds) (items_nameless ds)
    nameless (object ms) = Nameless-map (flat_map pair_names) names value.Object (λ ps e. variables_in_object ps ∙ e) (fields_of of_bool of_int of_text ms) (members_nameless ms)

    items_nameless : (ds : Items) → Nameless (flat_map item_names) (inputs_of of_bool of_int of_text ds)
    items_nameless no_items = refl
    items_nameless (item d ds) = Nameless-cons names item_names unplaced (λ x. refl) (input_of of_bool of_int of_text d) (inputs_of of_bool of_int of_text ds) (nameless d) (items_nameless ds)

    members_nameless : (ms : Members) → Nameless (flat_map pair_names) (fields_of of_bool of_int of_text ms)
    members_nameless no_members = refl
    members_nameless (member k d ms) = Nameless-cons names pair_names (λ x. unplaced_pair (k, x)) (λ x. refl) (input_of of_bool of_int of_text d) (fields_of of_bool of_int of_text ms) (nameless d) (members_nameless ms)

  pub json_holds_no_variable : JsonHoldsNoVariable of_bool of_int of_text
  json_holds_no_variable d v e = Nameless-some names (input_of of_bool of_int of_text d) v e (nameless d)
