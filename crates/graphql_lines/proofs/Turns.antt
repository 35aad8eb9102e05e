-- One turn of a loop over JSON: what was found, and then what is left, is what the whole gives.
use Rattle.std.proofs.Common.{◌≡◌, ℕ, ℤ, Bool, List, [], ◌∷◌, ◌++◌, Option, Some, None, option_map, refl, sym, ap, ◌∙◌, append_assoc, string_bytes}
use Rattle.serde_json.specs.View.{view, members_view}
use Rattle.serde_json.proofs.Views.{Entry}
use Rattle.serde_json.specs.Data.{Data, Members, member}
use Rattle.graphql_values.specs.declared.input_value.InputValue.{InputValue}
use Rattle.graphql_values.specs.InputValues.{Pair, unplaced_pair}
use Rattle.graphql_lines.specs.Variables.{input_of, fields_of}

behind : {A : Type 0} (found : List A) (x : A) (rest : Option (List A)) → option_map (λ ys. found ++ ys) (option_map (λ ys. x ∷ ys) rest) ≡ option_map (λ ys. (found ++ x ∷ []) ++ ys) rest
behind found x None = refl
behind found x (Some ys) = ap Some (sym (append_assoc found (x ∷ []) ys))

module _ {S : Type 0} (of_bool : Bool → S) (of_int : ℤ → S) (of_text : List ℕ → S) where
  pub member_found : (found : List (Pair (InputValue S))) (k : List ℕ) (d : Data) (ms : Members) (x : InputValue S) → input_of of_bool of_int of_text d ≡ Some x
      → option_map (λ ys. found ++ ys) (fields_of of_bool of_int of_text (member k d ms)) ≡ option_map (λ ys. (found ++ unplaced_pair (k, x) ∷ []) ++ ys) (fields_of of_bool of_int of_text ms)
  member_found found k d ms x e = rw e (behind found (unplaced_pair (k, x)) (fields_of of_bool of_int of_text ms))

  pub member_turn : (whole : Option (List (Pair (InputValue S)))) (left rest : List Entry) (e : Entry) (x : InputValue S) (found new : List (Pair (InputValue S)))
      → left ≡ e ∷ rest → input_of of_bool of_int of_text (view e.1) ≡ Some x → new ≡ found ++ unplaced_pair (string_bytes e.0, x) ∷ []
      → whole ≡ option_map (λ ys. found ++ ys) (fields_of of_bool of_int of_text (members_view left))
      → whole ≡ option_map (λ ys. new ++ ys) (fields_of of_bool of_int of_text (members_view rest))
  member_turn whole left rest e x found new next means pushed so_far =
      rw pushed (so_far ∙ ap (λ es. option_map (λ ys. found ++ ys) (fields_of of_bool of_int of_text (members_view es))) next ∙ member_found found (string_bytes e.0) (view e.1) (members_view rest) x means)
