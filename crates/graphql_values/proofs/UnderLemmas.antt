-- The values that stand under a name, and how many.
use Rattle.std.proofs.Common.{◌≡◌, ◌≢◌, ℕ, suc, ◌+◌, ◌<◌, ◌≤◌, Bool, true, false, cond, Decides, List, [], ◌∷◌, ◌++◌, map, length, take, drop, get_or, ap, sym, subst, refl, ◌∙◌, arith}
use Rattle.std.specs.List.{filter, All}
use Rattle.std.specs.Str.{bytes_eq}
use Rattle.std.proofs.lemmas.Bool.{false≢true}
use Rattle.std.proofs.lemmas.List.{drop_more, map-append, length-map, length-append, take-append-drop}
use Rattle.std.proofs.lemmas.List.Elements.{filter-append, All-filter, All-map}
use Rattle.std.proofs.lemmas.List.Sums.{length-filter, count_by-le-length}
use Rattle.std.proofs.lemmas.Slice.Eq.{bytes_eq-Decides}
use Rattle.graphql_text.specs.declared.text.Text.{Text}
use Rattle.graphql_values.specs.InputValues.{Placed, Pair}
use Rattle.graphql_values.specs.SameValue.{values_named}

decided : {P C : Type 0} (b : Bool) → Decides b P → (P → C) → ((P → ⊥) → C) → C
decided true d when otherwise = when (d.0 refl)
decided false d when otherwise = otherwise (λ is. false≢true (d.1 is))

module _ {A : Type 0} where
  abbrev pub count : Text → List (Pair A) → ℕ
  count name ps = length (values_named name ps)

  -- a field has the name, or it has another
  pub by_its_name : {C : Type 0} (p : Pair A) (name : Text) → (p.0.item ≡ name → C) → (p.0.item ≢ name → C) → C
  by_its_name p name = decided (bytes_eq p.0.item name) (bytes_eq-Decides p.0.item name)

  abbrev first_if : Bool → Text → Pair A → List (Pair A) → List (Placed A)
  first_if b name p ps = map (λ q. q.1) (cond b (p ∷ filter (λ q. bytes_eq q.0.item name) ps) (filter (λ q. bytes_eq q.0.item name) ps))

  pub under_named : (name : Text) (p : Pair A) (ps : List (Pair A)) → p.0.item ≡ name → values_named name (p ∷ ps) ≡ p.1 ∷ values_named name ps
  under_named name p ps named = ap (λ b. first_if b name p ps) ((bytes_eq-Decides p.0.item name).1 named)

  other_name : (b : Bool) (name : Text) (p : Pair A) (ps : List (Pair A)) → Decides b (p.0.item ≡ name) → p.0.item ≢ name → first_if b name p ps ≡ values_named name ps
  other_name true name p ps d differs = absurd (differs (d.0 refl))
  other_name false name p ps d differs = refl

  pub under_other : (name : Text) (p : Pair A) (ps : List (Pair A)) → p.0.item ≢ name → values_named name (p ∷ ps) ≡ values_named name ps
  under_other name p ps = other_name (bytes_eq p.0.item name) name p ps (bytes_eq-Decides p.0.item name)

  under_append : (name : Text) (ps qs : List (Pair A)) → values_named name (ps ++ qs) ≡ values_named name ps ++ values_named name qs
  under_append name ps qs = ap (map (λ p. p.1)) (filter-append (λ p. bytes_eq p.0.item name) ps qs) ∙ map-append (λ p. p.1) (filter (λ p. bytes_eq p.0.item name) ps) (filter (λ p. bytes_eq p.0.item name) qs)

  -- what holds of each field's value holds of each that stands under a name
  pub under_holds : (P : Placed A → Type 0) (name : Text) (ps : List (Pair A)) → All (λ p. P p.1) ps → All P (values_named name ps)
  under_holds P name ps each = All-map P (λ p. p.1) (filter (λ p. bytes_eq p.0.item name) ps) (All-filter (λ p. bytes_eq p.0.item name) (λ p. P p.1) ps each)

  -- ---- the fields before and after a place

  module _ (ps : List (Pair A)) (k : ℕ) (p : Pair A) (within : k < length ps) (is : p ≡ get_or ps k p) where
    abbrev drop_here : drop k ps ≡ p ∷ drop (k + 1) ps
    drop_here = drop_more ps k p within ∙ ap (λ q. q ∷ drop (k + 1) ps) (sym is)

    -- from the field at a place on
    left_named : (name : Text) → p.0.item ≡ name → values_named name (drop k ps) ≡ p.1 ∷ values_named name (drop (k + 1) ps)
    left_named name named = ap (values_named name) drop_here ∙ under_named name p (drop (k + 1) ps) named

    pub around : values_named p.0.item ps ≡ values_named p.0.item (take k ps) ++ p.1 ∷ values_named p.0.item (drop (k + 1) ps)
    around = ap (values_named p.0.item) (sym (take-append-drop k ps)) ∙ under_append p.0.item (take k ps) (drop k ps) ∙ ap (λ xs. values_named p.0.item (take k ps) ++ xs) (left_named p.0.item refl)

  -- ---- how many

  pub count_within : (name : Text) (ps : List (Pair A)) → count name ps ≤ length ps
  count_within name ps =
      let same : count name ps ≡ length (filter (λ (p : Pair A). bytes_eq p.0.item name) ps) = length-map (filter (λ (p : Pair A). bytes_eq p.0.item name) ps) (λ p. p.1) in
      omega (arith, same, length-filter (λ (p : Pair A). bytes_eq p.0.item name) ps, count_by-le-length (λ (p : Pair A). bytes_eq p.0.item name) ps)

  count_append : (name : Text) (ps qs : List (Pair A)) → count name (ps ++ qs) ≡ count name ps + count name qs
  count_append name ps qs = ap length (under_append name ps qs) ∙ length-append (values_named name ps) (values_named name qs)

  -- fields of one name count alike
  count_one : (name : Text) (p q : Pair A) → q.0.item ≡ p.0.item → count name (p ∷ []) ≡ count name (q ∷ [])
  count_one name p q same = by_its_name p name
      (λ named. ap length (under_named name p [] named) ∙ sym (ap length (under_named name q [] (same ∙ named))))
      (λ differs. ap length (under_other name p [] differs) ∙ sym (ap length (under_other name q [] (λ named. differs (sym same ∙ named)))))

  -- a field of a name, and the fields before and after it
  abbrev pub Standing : Text → List (Pair A) → Type 0
  Standing name qs = (before : List (Pair A)) × (q : Pair A) × (after : List (Pair A)) × (qs ≡ before ++ q ∷ after) × (q.0.item ≡ name)

  pub standing : (name : Text) (qs : List (Pair A)) → 0 < count name qs → Standing name qs
  standing name [] some = absurd (omega (arith, some))
  standing name (q ∷ qs) some = by_its_name q name
      (λ named. ([], q, qs, refl, named))
      (λ differs.
      let rest : Standing name qs = standing name qs (subst (λ xs. 0 < length xs) (under_other name q qs differs) some) in
      (q ∷ rest.0, rest.1, rest.2, ap (λ xs. q ∷ xs) rest.3, rest.4))

  -- where no name stands more often in the first fields than in the second there are no more of them; if as many, no name stands less often
  pub counted : (ps qs : List (Pair A)) → ((name : Text) → count name ps ≤ count name qs) → (length ps ≤ length qs) × (length ps ≡ length qs → (name : Text) → count name qs ≤ count name ps)
  counted [] qs each = (omega arith, λ e name. omega (arith, e, count_within name qs))
  counted (p ∷ ps) qs each =
      let there : Standing p.0.item qs = standing p.0.item qs (omega (arith, each p.0.item, ap length (under_named p.0.item p ps refl))) in
      let before = there.0 in
      let q = there.1 in
      let after = there.2 in
      let with_it : (name : Text) → count name qs ≡ count name before + (count name (q ∷ []) + count name after) = λ name. ap (count name) there.3 ∙ count_append name before (q ∷ after) ∙ ap (λ n. count name before + n) (count_append name (q ∷ []) after) in
      let long : length qs ≡ length before + suc (length after) = ap length there.3 ∙ length-append before (q ∷ after) in
      let rest = counted ps (before ++ after) (λ name. omega (arith, each name, with_it name, count_append name (p ∷ []) ps, count_append name before after, count_one name p q there.4)) in
      (omega (arith, rest.0, long, length-append before after), λ e name. omega (arith, rest.1 (omega (arith, e, long, length-append before after)) name, with_it name, count_append name (p ∷ []) ps, count_append name before after, count_one name p q there.4))
