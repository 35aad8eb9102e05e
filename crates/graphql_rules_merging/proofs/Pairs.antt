-- Pairs of sets, either way round.
use Rattle.std.proofs.Common.{◌≡◌, refl, sym, ◌∙◌, arith, ℕ, ◌<◌, ltb, Bool, true, false, cond, ◌⊎◌, inl, inr}
use Rattle.std.proofs.lemmas.Bool.Decides.{Decides-ltb}
use Rattle.graphql_rules_merging.specs.declared.agenda.SetPair.{SetPair}
use Rattle.graphql_rules_merging.specs.Agenda.{pair_of}

both-less : (p q : ℕ) → ltb q p ≡ true → ltb p q ≡ true → ⊥
both-less p q e f = let a = (Decides-ltb q p).0 e in let b = (Decides-ltb p q).0 f in omega (arith, a, b)

neither-less : (p q : ℕ) → ltb q p ≡ false → ltb p q ≡ false → p ≡ q
neither-less p q e f = omega (arith, not-less q p e, not-less p q f)
  where
    not-less : (a b : ℕ) → ltb a b ≡ false → a < b → ⊥
    not-less a b e h = absurd (differ (sym e ∙ (Decides-ltb a b).1 h))
      where
        differ : false ≡ true → ⊥
        differ e = cc

abbrev the_pair : Bool → ℕ → ℕ → Bool → SetPair
the_pair turned p q x = cond turned (record { left = q; right = p; around = x }) (record { left = p; right = q; around = x })

-- a pair is the same either way round
pub pair_either_way : (p q : ℕ) (x : Bool) → pair_of p q x ≡ pair_of q p x
pair_either_way p q x = cases (ltb q p) (ltb p q) refl refl
  where
    cases : (a b : Bool) → ltb q p ≡ a → ltb p q ≡ b → the_pair a p q x ≡ the_pair b q p x
    cases true true e f = absurd (both-less p q e f)
    cases true false e f = refl
    cases false true e f = refl
    cases false false e f = let same : p ≡ q = neither-less p q e f in cc

-- what holds of one of two sets holds of one of the pair's
pub pair_holds : (P : ℕ → Type 0) (p q : ℕ) (x : Bool) → P p ⊎ P q → P (pair_of p q x).left ⊎ P (pair_of p q x).right
pair_holds P p q x h = cases (ltb q p)
  where
    cases : (a : Bool) → P (the_pair a p q x).left ⊎ P (the_pair a p q x).right
    cases true = elim h [ inl i ↦ inr i | inr i ↦ inl i ]
    cases false = h

-- what holds of two sets, either way round, holds of their pair
pub pair_keeps : (R : ℕ → ℕ → Bool → Type 0) → ((p q : ℕ) (x : Bool) → R p q x → R q p x) → (p q : ℕ) (x : Bool) → R p q x → R (pair_of p q x).left (pair_of p q x).right (pair_of p q x).around
pair_keeps R turned p q x h = cases (ltb q p)
  where
    cases : (a : Bool) → R (the_pair a p q x).left (the_pair a p q x).right (the_pair a p q x).around
    cases true = turned p q x h
    cases false = h
