-- How many comparisons the pairs of sets that are not given out yet may take.
use Rattle.std.proofs.Common.{◌≡◌, refl, ap, sym, subst, ◌∙◌, arith, ℕ, ◌+◌, ◌*◌, ◌<◌, ◌≤◌, ltb, Bool, true, false, List, length, cond, inl, inr}
use Rattle.std.proofs.lemmas.Bool.{false≢true}
use Rattle.std.proofs.lemmas.Bool.Decides.{Decides-ltb}
use Rattle.graphql_merging.specs.FieldNodes.{fields_written}
use Rattle.graphql_merging.specs.Pieces.{Pieces, PieceField}
use Rattle.graphql_merging.specs.declared.table.SetTable.{SetTable}
use Rattle.graphql_merging.specs.declared.table.WrittenSet.{WrittenSet}
use Rattle.graphql_schema.specs.declared.meta.MetaType.{MetaType}
use Rattle.graphql_bundles.proofs.Counts.{fields-at, nothing}
use Rattle.graphql_rules_merging.specs.declared.agenda.SetPair.{SetPair}
use Rattle.graphql_rules_merging.specs.Agenda.{pair_of, ListsPairs, Listed, Takes}
use Rattle.graphql_rules_merging.specs.Comparing.{DoAgree, LeadsTo}
use Rattle.graphql_rules_merging.specs.Counted.{field_count_at, twice_compared}
use Rattle.graphql_rules_merging.proofs.Weights.{all-weigh, places-weigh, total, totals-fewer, totals-less, up-to, weight}

-- in each pair that waits the first number is no greater
abbrev pub AreOrdered : Listed → Type 0
AreOrdered listed = (pair : SetPair) → listed.waits pair ≡ true → pair.left ≤ pair.right

ordered-pair : (p q : ℕ) (x : Bool) (pair : SetPair) → pair ≡ pair_of p q x → pair.left ≤ pair.right
ordered-pair p q x pair e = subst (λ (k : SetPair). k.left ≤ k.right) (sym e) (cases (ltb q p) refl)
  where
    cases : (b : Bool) → ltb q p ≡ b
        → (cond {A = SetPair} b (record { left = q; right = p; around = x }) (record { left = p; right = q; around = x })).left
        ≤ (cond {A = SetPair} b (record { left = q; right = p; around = x }) (record { left = p; right = q; around = x })).right
    cases true t = let h = (Decides-ltb q p).0 t in omega (arith, h)
    cases false t = none (λ h. false≢true (sym t ∙ (Decides-ltb q p).1 h))
      where
        none : (q < p → ⊥) → p ≤ q
        none h = omega (arith, h)

module _ {S C : Type 0} (t : Pieces S C) where
  led-ordered : (P : PieceField S C × PieceField S C → Type 0) (pair k : SetPair) → LeadsTo t P pair k → k.left ≤ k.right
  led-ordered P pair k (inl i) = ordered-pair i.0 pair.right pair.around k i.3
  led-ordered P pair k (inr (inl i)) = ordered-pair i.0 pair.left pair.around k i.3
  led-ordered P pair k (inr (inr i)) = ordered-pair i.0.0.own i.0.1.own _ k i.5

  pub ordered-first : (definitions : ℕ) (none listed : Listed) → ((pair : SetPair) → (none.waits pair ≡ false) × (none.given pair ≡ false))
      → ListsPairs t (λ pair. (k : ℕ) × (k < definitions) × (pair ≡ pair_of k k false)) (λ pair. (k : ℕ) × (k < definitions) × (pair ≡ pair_of k k false)) none listed
      → AreOrdered listed
  ordered-first definitions none listed is h pair w = elim (h.waits pair w) [
    | inl j ↦ absurd (false≢true (sym (is pair).0 ∙ j))
    | inr d ↦ ordered-pair d.0.0 d.0.0 false pair d.0.2
  ]

  pub ordered-more : (eq : S → S → Bool) (types : List (MetaType S C)) (pair : SetPair) (old mid new : Listed) → Takes pair old mid
      → ListsPairs t (LeadsTo t (DoAgree eq types pair.around) pair) (LeadsTo t (λ p. Unit {0}) pair) mid new
      → AreOrdered old → AreOrdered new
  ordered-more eq types pair old mid new taken h ordered k w = elim (h.waits k w) [
    | inl j ↦ ordered k (taken.waits k j)
    | inr l ↦ led-ordered (λ p. Unit {0}) pair k l.0
  ]

module _ {S C : Type 0} (table : SetTable S C) where
  -- what a pair may take that is not given out yet
  abbrev free : Listed → Bool → ℕ → ℕ → ℕ
  free listed x p q = cond (listed.given (record { left = p; right = q; around = x })) 0 (weight (field_count_at table) p q)

  -- what all may take
  abbrev pub spare : Listed → ℕ
  spare listed = total (free listed true) (length table.sets) + total (free listed false) (length table.sets)

  at-most : (b : Bool) (n : ℕ) → cond b 0 n ≤ n
  at-most true n = omega arith
  at-most false n = omega arith

  all-fields : up-to (field_count_at table) (length table.sets) ≡ fields_written table.sets
  unfolding fields_written
  all-fields =
      (λ i. up-to (λ k. length (fields-at table k i)) (length table.sets))
      ∙ places-weigh (λ (s : WrittenSet S C). length s.fields) nothing table.sets

  -- no more than each field with each, once for each flag
  pub spare-first : (listed : Listed) → spare listed ≤ 2 * (fields_written table.sets * fields_written table.sets)
  spare-first listed =
      let n = length table.sets in
      let w = field_count_at table in
      let one = totals-fewer (weight w) (free listed true) (λ p q. at-most (listed.given (record { left = p; right = q; around = true })) (weight w p q)) n in
      let other = totals-fewer (weight w) (free listed false) (λ p q. at-most (listed.given (record { left = p; right = q; around = false })) (weight w p q)) n in
      let all = all-weigh w n ∙ ap (λ m. m * m) all-fields in
      omega (arith, one, other, all)

  -- a pair that is given out takes no more than it might
  pub spare-less : (pair : SetPair) (old mid new : Listed) → pair.left ≤ pair.right → pair.right < length table.sets → Takes pair old mid
      → ((k : SetPair) → new.given k ≡ mid.given k) → spare new + twice_compared table pair ≤ spare old
  spare-less pair old mid new ordered within taken same = cases pair.around refl
    where
      still : (a b : Bool) (m : ℕ) → (a ≡ true → b ≡ true) → cond b 0 m ≤ cond a 0 m
      still true b m h = subst (λ c. cond c 0 m ≤ 0) (sym (h refl)) (omega arith)
      still false b m h = at-most b m

      kept : (x : Bool) (p q : ℕ) → free new x p q ≤ free old x p q
      kept x p q =
          let k : SetPair = record { left = p; right = q; around = x } in
          still (old.given k) (new.given k) (weight (field_count_at table) p q) (λ g. same k ∙ taken.kept k g)

      strictly : (x : Bool) → pair.around ≡ x → total (free new x) (length table.sets) + twice_compared table pair ≤ total (free old x) (length table.sets)
      strictly x e =
          let is : record { left = pair.left; right = pair.right; around = x } ≡ pair = (λ i. record { left = pair.left; right = pair.right; around = sym e i }) in
          let before = ap (λ k. cond (old.given k) 0 (twice_compared table pair)) is ∙ ap (λ b. cond b 0 (twice_compared table pair)) taken.fresh in
          let after = ap (λ k. cond (new.given k) 0 (twice_compared table pair)) is ∙ ap (λ b. cond b 0 (twice_compared table pair)) (same pair ∙ taken.out) in
          totals-less (free old x) (free new x) (kept x) (twice_compared table pair) pair.left pair.right (length table.sets) ordered within (omega (arith, before, after))

      no-more : (x : Bool) → total (free new x) (length table.sets) ≤ total (free old x) (length table.sets)
      no-more x = totals-fewer (free old x) (free new x) (kept x) (length table.sets)

      cases : (x : Bool) → pair.around ≡ x → spare new + twice_compared table pair ≤ spare old
      cases true e = let a = strictly true e in let b = no-more false in omega (arith, a, b)
      cases false e = let a = strictly false e in let b = no-more true in omega (arith, a, b)
