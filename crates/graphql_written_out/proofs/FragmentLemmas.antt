-- Where fragments are defined.
use Rattle.std.proofs.Common.{◌≡◌, refl, ap, sym, ◌∙◌, ℕ, suc, ◌+◌, ◌<◌, ◌≤◌, arith, inl, inr, Bool, true, false, cond, List, [], ◌∷◌, ◌++◌, Option, Some, None, Bor, length, get_or, take, slice_get}
use Rattle.std.specs.HashMap.{HashMap, UpdatesBy, get_by}
use Rattle.std.specs.Option.{option_and_then, option_map, option_or, is_some}
use Rattle.std.specs.Str.{bytes_eq}
use Rattle.std.proofs.lemmas.List.{length-take-le, take_more}
use Rattle.std.proofs.lemmas.Option.{slice_get_cases, slice_get_read}
use Rattle.std.proofs.lemmas.Map.Text.{hash_map_updates_str}
use Rattle.std.proofs.lemmas.Slice.Eq.{bytes_eq-Decides}
use Rattle.graphql_names.specs.Names.{Bytes}
use Rattle.graphql_values.specs.InputValues.{Placed}
use Rattle.graphql_tree.specs.Definitions.{fragments_listed}
use Rattle.graphql_tree.specs.declared.document.Definition.{Definition}
use Rattle.graphql_tree.specs.declared.document.Definition.TheVariants as definition
use Rattle.graphql_tree.specs.declared.document.Fragment.{Fragment}
use Rattle.graphql_written_out.specs.FragmentNumbers.{defines_fragment, fragment_number}
use Rattle.graphql_written_out.specs.Written.{fragment_meant}

module _ {S : Type 0} where
  number-push : (ds : List (Definition S)) (d : Definition S) (name : Bytes)
      → fragment_number (ds ++ d ∷ []) name ≡ option_or (fragment_number ds name) (cond (defines_fragment name d) (Some (length ds)) None)
  number-push [] d name = refl
  number-push (e ∷ ds) d name =
      ap (λ o. cond (defines_fragment name e) (Some 0) (option_map suc o)) (number-push ds d name)
      ∙ either (defines_fragment name e) (fragment_number ds name) (defines_fragment name d)
    where
      either : (b : Bool) (o : Option ℕ) (c : Bool)
          → cond b (Some 0) (option_map suc (option_or o (cond c (Some (length ds)) None))) ≡ option_or (cond b (Some 0) (option_map suc o)) (cond c (Some (suc (length ds))) None)
      either true o c = refl
      either false (Some k) c = refl
      either false None true = refl
      either false None false = refl

  -- one definition more
  pub number-more : (document : List (Definition S)) (i : ℕ) (d : Definition S) → i < length document → d ≡ get_or document i d
      → (name : Bytes) (old new : Option ℕ) → old ≡ fragment_number (take i document) name → new ≡ option_or old (cond (defines_fragment name d) (Some i) None)
      → new ≡ fragment_number (take (i + 1) document) name
  number-more document i d within is name old new before step =
      let grown : take (i + 1) document ≡ take i document ++ d ∷ [] = take_more document i d within ∙ ap (λ x. take i document ++ x ∷ []) (sym is) in
      let count : length (take i document) ≡ i = length-take-le i document (omega arith) in
      step
      ∙ (λ j. option_or (before j) (cond (defines_fragment name d) (Some (sym count j)) None))
      ∙ sym (ap (λ ds. fragment_number ds name) grown ∙ number-push (take i document) d name)

-- a name that was not there is put at its number
number-put : {H : Type 0} (put : Bytes) (number : ℕ) (old new : HashMap (Bor Bytes) ℕ H) → UpdatesBy (λ x y. bytes_eq x.now y.now) (λ k. bytes_eq put k.now) old new (Some number)
    → get_by (λ k. bytes_eq put k.now) old ≡ None
    → (name : Bytes) → get_by (λ k. bytes_eq name k.now) new ≡ option_or (get_by (λ k. bytes_eq name k.now) old) (cond (bytes_eq put name) (Some number) None)
number-put put number old new updates absent name =
    hash_map_updates_str put old new (Some number) updates name ∙ either (bytes_eq put name) refl (get_by (λ k. bytes_eq name k.now) old) refl
  where
    or-none : (o : Option ℕ) → o ≡ option_or o None
    or-none None = refl
    or-none (Some k) = refl

    either : (b : Bool) → bytes_eq put name ≡ b → (o : Option ℕ) → get_by (λ k. bytes_eq name k.now) old ≡ o → cond b (Some number) o ≡ option_or o (cond b (Some number) None)
    either true e o at =
        let same : put ≡ name = (bytes_eq-Decides put name).0 e in
        let none : o ≡ None = sym at ∙ sym (ap (λ bs. get_by (λ k. bytes_eq bs k.now) old) same) ∙ absent in
        sym (ap (λ p. option_or p (Some number)) none)
    either false e o at = or-none o

not-there : {A : Type 0} (o : Option A) (there : Bool) → there ≡ is_some o → there ≡ false → o ≡ None
not-there None there e n = refl
not-there (Some x) there e n = cc

-- a fragment whose name was not there is added
pub fragment-added : {S H : Type 0} (d : Definition S) (f : Placed (Fragment S)) → d ≡ definition.Fragment f → (put : Bytes) → put ≡ f.item.name.item
    → (number : ℕ) (there : Bool) (old new : HashMap (Bor Bytes) ℕ H) → there ≡ is_some (get_by (λ k. bytes_eq put k.now) old) → there ≡ false
    → UpdatesBy (λ x y. bytes_eq x.now y.now) (λ k. bytes_eq put k.now) old new (Some number)
    → (name : Bytes) → get_by (λ k. bytes_eq name k.now) new ≡ option_or (get_by (λ k. bytes_eq name k.now) old) (cond (defines_fragment name d) (Some number) None)
fragment-added d f is put named number there old new e n updates name =
    number-put put number old new updates (not-there (get_by (λ k. bytes_eq put k.now) old) there e n) name
    ∙ ap (λ b. option_or (get_by (λ k. bytes_eq name k.now) old) (cond b (Some number) None)) (ap (λ bs. bytes_eq bs name) named ∙ sym (ap (defines_fragment name) is))

-- a definition at the number of a name is the fragment that the name means
module _ {S : Type 0} where
  abbrev pub fragment_at : Option (Definition S) → Option (Fragment S)
  fragment_at (Some (definition.Fragment f)) = Some f.item
  fragment_at (Some (definition.Operation o)) = None
  fragment_at None = None

  later : (d : Definition S) (ds : List (Definition S)) (o : Option ℕ)
      → option_and_then (λ n. fragment_at (slice_get (d ∷ ds) n)) (option_map suc o) ≡ option_and_then (λ n. fragment_at (slice_get ds n)) o
  later d ds None = refl
  later d ds (Some n) = refl

  pub number-means : (ds : List (Definition S)) (name : Bytes)
      → option_and_then (λ n. fragment_at (slice_get ds n)) (fragment_number ds name) ≡ fragment_meant (fragments_listed ds) name
  number-means [] name = refl
  number-means (definition.Operation o ∷ ds) name = later (definition.Operation o) ds (fragment_number ds name) ∙ number-means ds name
  number-means (definition.Fragment f ∷ ds) name = either (bytes_eq f.item.name.item name) (number-means ds name)
    where
      either : (b : Bool) → option_and_then (λ n. fragment_at (slice_get ds n)) (fragment_number ds name) ≡ fragment_meant (fragments_listed ds) name
          → option_and_then (λ n. fragment_at (slice_get (definition.Fragment f ∷ ds) n)) (cond b (Some 0) (option_map suc (fragment_number ds name)))
          ≡ cond b (Some f.item) (fragment_meant (fragments_listed ds) name)
      either true means = refl
      either false means = later (definition.Fragment f) ds (fragment_number ds name) ∙ means

  -- what the name means, where its definition is read at its number
  pub number-read : (ds : List (Definition S)) (name : Bytes) (n : ℕ) (d : Definition S) → Some n ≡ fragment_number ds name → n < length ds → d ≡ get_or ds n d
      → fragment_at (Some d) ≡ fragment_meant (fragments_listed ds) name
  number-read ds name n d is within read =
      ap fragment_at (sym (slice_get_read ds (length ds) n d refl within read))
      ∙ ap (option_and_then (λ n. fragment_at (slice_get ds n))) is ∙ number-means ds name

  -- a number has its definition
  pub number-none : (ds : List (Definition S)) (name : Bytes) (n : ℕ) → Some n ≡ fragment_number ds name → length ds ≤ n → None ≡ fragment_meant (fragments_listed ds) name
  number-none ds name n is past = elim (slice_get_cases ds n).1 [
    | inl c ↦ absurd (omega (arith, c.1, past))
    | inr c ↦ ap fragment_at (sym c.1) ∙ ap (option_and_then (λ n. fragment_at (slice_get ds n))) is ∙ number-means ds name
  ]

  -- without a number nothing is meant
  pub no-number : (ds : List (Definition S)) (name : Bytes) → None ≡ fragment_number ds name → None ≡ fragment_meant (fragments_listed ds) name
  no-number ds name is = ap (option_and_then (λ n. fragment_at (slice_get ds n))) is ∙ number-means ds name
