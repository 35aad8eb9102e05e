-- Values by name: what the members so far mean, and then one more.
use Rattle.std.proofs.Common.{◌≡◌, ℕ, ℤ, Bool, true, false, cond, List, [], ◌∷◌, ◌++◌, Option, Some, None, option_map, option_and_then, IsSome, refl, sym, ap, ◌∙◌, append_assoc, append-nil, bytes_eq, string_bytes, string_eq, string_cmp, String, Global, HashMap, Decides, subst}
use Rattle.std.specs.HashMap.{get_by_text, UpdatesBy}
use Rattle.std.specs.List.Sorted.{IsStrictlySortedBy}
use Rattle.std.specs.Map.{keys_of}
use Rattle.std.proofs.lemmas.Map.Text.{hash_map_updates_text}
use Rattle.std.proofs.lemmas.Slice.Eq.{bytes_eq-Decides}
use Rattle.serde_json.specs.Data.{Data, Members, put}
use Rattle.serde_json.specs.Find.{get_member}
use Rattle.serde_json.specs.View.{view, members_view}
use Rattle.serde_json.proofs.Views.{Entry, put_last, get_member-put, get_member-put_other}
use Rattle.graphql_values.specs.declared.input_value.InputValue.{InputValue}
use Rattle.graphql_values.specs.InputValues.{Pair, unplaced_pair}
use Rattle.graphql_lines.specs.Variables.{input_of, fields_of, HasValues}

module _ {S : Type 0} (of_bool : Bool → S) (of_int : ℤ → S) (of_text : List ℕ → S) where
  abbrev pub means : Data → Option (InputValue S)
  means = input_of of_bool of_int of_text

  abbrev pub fields : List Entry → Option (List (Pair (InputValue S)))
  fields es = fields_of of_bool of_int of_text (members_view es)

  false_is_not_true : false ≡ true → ⊥
  false_is_not_true e = cc

  -- the fields of a member and of those behind it
  abbrev with : List ℕ → Option (InputValue S) → Option (List (Pair (InputValue S))) → Option (List (Pair (InputValue S)))
  with k o rest = option_and_then (λ x. option_map (λ ps. unplaced_pair (k, x) ∷ ps) rest) o

  with_some : (k : List ℕ) (o : Option (InputValue S)) (r s : Option (List (Pair (InputValue S)))) → (IsSome r → IsSome s) → IsSome (with k o r) → IsSome (with k o s)
  with_some k None r s more h = h
  with_some k (Some x) None s more h = absurd (cc)
  with_some k (Some x) (Some ps) None more h = more refl
  with_some k (Some x) (Some ps) (Some qs) more h = refl

  with_none : (k : List ℕ) (o : Option (InputValue S)) (r : Option (List (Pair (InputValue S)))) → r ≡ None → with k o r ≡ None
  with_none k None r e = refl
  with_none k (Some x) r e = rw e refl

  fits_one_more : (done : List Entry) (e : Entry) (x : InputValue S) → means (view e.1) ≡ Some x → IsSome (fields done) → IsSome (fields (done ++ e ∷ []))
  fits_one_more [] e x m fit = rw m refl
  fits_one_more (d ∷ done) e x m fit = with_some (string_bytes d.0) (means (view d.1)) (fields done) (fields (done ++ e ∷ [])) (fits_one_more done e x m) fit

  pub fails : (done : List Entry) (e : Entry) (rest : List Entry) → means (view e.1) ≡ None → fields (done ++ e ∷ rest) ≡ None
  fails [] e rest m = rw m refl
  fails (d ∷ done) e rest m = with_none (string_bytes d.0) (means (view d.1)) (fields (done ++ e ∷ rest)) (fails done e rest m)

  at_name : (k q : List ℕ) (b : Bool) → Decides b (k ≡ q) → (d : Data) (ms : Members) (x : InputValue S) (old : Option (InputValue S)) → means d ≡ Some x
      → old ≡ option_and_then means (get_member q ms) → cond b (Some x) old ≡ option_and_then means (get_member q (put k d ms))
  at_name k q true decides d ms x old m e = subst (λ n. Some x ≡ option_and_then means (get_member n (put k d ms))) (decides.0 refl) (sym (ap (option_and_then means) (get_member-put k d ms) ∙ m))
  at_name k q false decides d ms x old m e = e ∙ ap (option_and_then means) (sym (get_member-put_other q k d ms (λ same. false_is_not_true (decides.1 (sym same)))))

  module _ {H : Type 0} where
    -- the members so far, those left, and the values of those so far
    pub record SoFar (all left : List Entry) (variables : HashMap (String Global) (InputValue S) H) : Type 0 where
      pub done : List Entry
      pub is : all ≡ done ++ left
      pub found : HasValues of_bool of_int of_text (members_view done) variables

    pub one_more : (all left rest : List Entry) (e : Entry) (name : String Global) (x : InputValue S) (old new : HashMap (String Global) (InputValue S) H)
        → IsStrictlySortedBy string_cmp (keys_of all) → left ≡ e ∷ rest → means (view e.1) ≡ Some x → string_bytes name ≡ string_bytes e.0
        → UpdatesBy string_eq (λ k. bytes_eq (string_bytes name) (string_bytes k)) old new (Some x)
        → SoFar all left old → SoFar all rest new
    one_more all left rest e name x old new sorted next m named set so_far =
        let split : all ≡ so_far.done ++ e ∷ rest = so_far.is ∙ ap (λ es. so_far.done ++ es) next in
        let last = put_last so_far.done e rest (subst (λ es. IsStrictlySortedBy string_cmp (keys_of es)) split sorted) in
        let sets = hash_map_updates_text (string_bytes name) old new (Some x) set in
        record {
          done = so_far.done ++ e ∷ [];
          is = split ∙ sym (append_assoc so_far.done (e ∷ []) rest);
          found = record {
            fit = fits_one_more so_far.done e x m so_far.found.fit;
            values = λ q. sets q
                ∙ ap (λ n. cond (bytes_eq n q) (Some x) (get_by_text old q)) named
                ∙ at_name (string_bytes e.0) q (bytes_eq (string_bytes e.0) q) (bytes_eq-Decides (string_bytes e.0) q) (view e.1) (members_view so_far.done) x (get_by_text old q) m (so_far.found.values q)
                ∙ ap (λ ms. option_and_then means (get_member q ms)) last;
          };
        }

    pub finished : (all : List Entry) (variables : HashMap (String Global) (InputValue S) H) → SoFar all [] variables → HasValues of_bool of_int of_text (members_view all) variables
    finished all variables so_far = subst (λ es. HasValues of_bool of_int of_text (members_view es) variables) (sym (so_far.is ∙ append-nil so_far.done)) so_far.found
