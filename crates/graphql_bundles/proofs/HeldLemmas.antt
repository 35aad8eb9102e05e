-- The bundles of the sets of definitions, one after the other.
use Rattle.std.proofs.Common.{◌≡◌, refl, sym, subst, arith, ℕ, ◌+◌, ◌<◌, ◌≤◌, false, List, [], ◌∷◌, ◌⊎◌, inl, inr}
use Rattle.std.specs.List.{Contains}
use Rattle.std.proofs.lemmas.Bool.Decides.{eqb_tells}
use Rattle.std.proofs.lemmas.List.Elements.{Contains-append_left, Contains-append_cases}
use Rattle.graphql_text.specs.declared.position.SourcePosition.{SourcePosition}
use Rattle.graphql_merging.specs.Pieces.{Pieces, StandsIn}
use Rattle.graphql_merging.proofs.Nested.{in-nothing}
use Rattle.graphql_bundles.specs.Bundles.{Bundle, CoversPiece, IsGathered}
use Rattle.graphql_bundles.specs.Closed.{AddsNumbers, AreThose, IsOpened}
use Rattle.graphql_bundles.specs.Going.{Stage, Grows}
use Rattle.graphql_bundles.specs.Held.{IsHeld, HoldsMore, HoldsEach}
use Rattle.graphql_bundles.specs.Steps.{Goes, HoldsSets, OfDefinitions}
use Rattle.graphql_bundles.proofs.ClosedLemmas.{closed-from, closed-holds}
use Rattle.graphql_bundles.proofs.GoesLemmas.{Stays, Definitions, goes-both, goes-none, goes-sets, goes-weaker, gathered-as, gathered-stays}
use Rattle.graphql_bundles.proofs.ListLemmas.{here}

abbrev Nothing : List SourcePosition → Type 0
Nothing e = ⊥

module _ {S C : Type 0} (t : Pieces S C) where
  -- each set that the bundle of a closure holds
  held-by : (all closed : List ℕ) (stage : Stage) → ((p : ℕ) → Contains all p → CoversPiece t closed p)
      → (closed ≡ []) ⊎ Contains stage.bundles (record { sets = closed; around = false }) → (k : ℕ) → Contains all k → IsHeld t stage k
  held-by all closed stage holds (inl none) k i =
      inl (λ p e f s. let a = holds k i f (subst (λ q. StandsIn t q f) e s) in in-nothing a.0 (subst (λ ns. Contains ns a.0) none a.1))
  held-by all closed stage holds (inr j) k i = inr (record { sets = closed; around = false }, j, refl, λ p e. subst (CoversPiece t closed) (sym e) (holds k i))

  pub goes-definition : (definition : ℕ) (all closed held more : List ℕ) (old mid new : Stage) → IsOpened t (definition ∷ []) all all
      → AreThose (λ p. t.direct p ≡ [] → ⊥) all closed → Grows Nothing (λ b. ⊥) old mid
      → Grows Nothing (λ b. b ≡ record { sets = closed; around = false }) mid new
      → (closed ≡ []) ⊎ Contains new.bundles (record { sets = closed; around = false }) → AddsNumbers held all more
      → Goes Nothing (HoldsSets t false (definition ∷ [])) (HoldsMore t definition held more) old new
  goes-definition definition all closed held more old mid new opened those spent grows there adds = record {
    grows = (goes-sets t (definition ∷ []) closed false old mid new (closed-from t (definition ∷ []) all closed opened those) spent grows there).grows;
    done = (λ _. record {
      own = adds.has definition (opened.has definition (here definition []));
      kept = (λ k i. subst (λ ns. Contains ns k) (sym adds.grown) (Contains-append_left held adds.more k i));
      held = (λ k i. elim (Contains-append_cases held adds.more k (subst (λ ns. Contains ns k) adds.grown i)) [
        | inl j ↦ inl j
        | inr j ↦ inr (held-by all closed new (closed-holds t (definition ∷ []) all closed opened those) there k (adds.only k j))
      ]);
    });
  }

  -- the bundle of its set alone
  pub goes-alone : (definition : ℕ) (held more : List ℕ) (old new : Stage) → AddsNumbers held (definition ∷ []) more
      → Goes Nothing (HoldsSets t false (definition ∷ [])) (λ stage. IsGathered t stage.bundles false (Contains (definition ∷ []))) old new
      → Goes Nothing (HoldsSets t false (definition ∷ [])) (HoldsMore t definition held more) old new
  goes-alone definition held more old new adds goes = record {
    grows = goes.grows;
    done = (λ e. record {
      own = adds.has definition (here definition []);
      kept = (λ k i. subst (λ ns. Contains ns k) (sym adds.grown) (Contains-append_left held adds.more k i));
      held = (λ k i. elim (Contains-append_cases held adds.more k (subst (λ ns. Contains ns k) adds.grown i)) [
        | inl j ↦ inl j
        | inr j ↦ inr (gathered-as t new.bundles false (Contains (definition ∷ [])) (λ p. p ≡ k)
            (λ p q. subst (Contains (definition ∷ [])) (sym q) (adds.only k j)) (goes.done e))
      ]);
    });
  }

  module _ (definitions : ℕ) (spread first : List ℕ) where
    abbrev May : Bundle → Type 0
    May = OfDefinitions t definitions

    abbrev pub Each : ℕ → List ℕ → Stage → Type 0
    Each n held = HoldsEach t n spread first held

    each-stays : (n : ℕ) (held : List ℕ) → Stays Nothing May (Each n held)
    each-stays n held s u grows h = record {
      each = h.each;
      held = (λ k i. elim (h.held k i) [ inl j ↦ inl j | inr g ↦ inr (gathered-stays t Nothing May false (λ p. p ≡ k) s u grows g) ]);
    }

    below : (k n : ℕ) → k < n + 1 → (k < n) ⊎ (k ≡ n)
    below k n less = elim (eqb_tells k n) [ inl e ↦ inr e.1 | inr e ↦ inl (before k n less e.1) ]
      where
        before : (k n : ℕ) → k < n + 1 → (k ≡ n → ⊥) → k < n
        before k n less e = omega (arith, less, e)

    pub each-none : (stage : Stage) → Goes Nothing May (Each 0 first) stage stage
    each-none stage = goes-none Nothing May (Each 0 first) stage (record { each = (λ k less. absurd (omega (arith, less))); held = (λ k i. inl i) })

    -- one is spread, or held already
    pub each-passed : (n : ℕ) (held : List ℕ) (old new : Stage) → Contains spread n ⊎ Contains held n → Goes Nothing May (Each n held) old new
        → Goes Nothing May (Each (n + 1) held) old new
    each-passed n held old new there h =
        goes-weaker Nothing Nothing May May (Each n held) (Each (n + 1) held) old new (λ e i. i) (λ b k. k)
        (λ s k. record {
          each = (λ j less. elim (below j n less) [ inl l ↦ k.each j l | inr e ↦ subst (λ m. Contains spread m ⊎ Contains held m) (sym e) there ]);
          held = k.held;
        }) h

    -- one is begun
    pub each-begun : (n : ℕ) (held more : List ℕ) (old mid new : Stage) → n < definitions → Goes Nothing May (Each n held) old mid
        → Goes Nothing (HoldsSets t false (n ∷ [])) (HoldsMore t n held more) mid new → Goes Nothing May (Each (n + 1) more) old new
    each-begun n held more old mid new less f g =
        goes-both Nothing May (Each n held) (HoldsMore t n held more) (Each (n + 1) more) old mid new (each-stays n held) joins f
        (goes-weaker Nothing Nothing (HoldsSets t false (n ∷ [])) May (HoldsMore t n held more) (HoldsMore t n held more) mid new (λ e i. i) (λ b h. (n, less, h)) (λ s h. h) g)
      where
        joins : (s : Stage) → Each n held s → HoldsMore t n held more s → Each (n + 1) more s
        joins s all one = record {
          each = (λ k small. elim (below k n small) [
            | inl l ↦ elim (all.each k l) [ inl i ↦ inl i | inr i ↦ inr (one.kept k i) ]
            | inr e ↦ inr (subst (Contains more) (sym e) one.own)
          ]);
          held = (λ k i. elim (one.held k i) [ inl j ↦ all.held k j | inr h ↦ inr h ]);
        }

    pub each-all : (n : ℕ) (held : List ℕ) (old new : Stage) → definitions ≤ n → Goes Nothing May (Each n held) old new → Goes Nothing May (Each definitions held) old new
    each-all n held old new past h =
        goes-weaker Nothing Nothing May May (Each n held) (Each definitions held) old new (λ e i. i) (λ b k. k)
        (λ s k. record { each = (λ j less. k.each j (omega (arith, less, past))); held = k.held }) h

  -- none is spread
  pub definitions-all : (definitions : ℕ) (spread first start : List ℕ) (old new : Stage) → start ≡ [] → spread ≡ []
      → Goes Nothing (OfDefinitions t definitions) (HoldsEach t definitions spread start first) old new
      → Goes Nothing (OfDefinitions t definitions) (Definitions t definitions) old new
  definitions-all definitions spread first start old new empty none h =
      goes-weaker Nothing Nothing (OfDefinitions t definitions) (OfDefinitions t definitions) (HoldsEach t definitions spread start first) (Definitions t definitions)
      old new (λ e i. i) (λ b k. k)
      (λ s each k less. elim (each.each k less) [
        | inl i ↦ in-nothing k (subst (λ ns. Contains ns k) none i)
        | inr i ↦ elim (each.held k i) [ inl j ↦ in-nothing k (subst (λ ns. Contains ns k) empty j) | inr g ↦ g ]
      ]) h

  -- first those that are not spread, then the others that are not held
  pub definitions-held : (definitions : ℕ) (spread none first second : List ℕ) (start : List ℕ) (old mid new : Stage) → start ≡ [] → none ≡ []
      → Goes Nothing (OfDefinitions t definitions) (HoldsEach t definitions spread start first) old mid
      → Goes Nothing (OfDefinitions t definitions) (HoldsEach t definitions none first second) mid new
      → Goes Nothing (OfDefinitions t definitions) (Definitions t definitions) old new
  definitions-held definitions spread none first second start old mid new empty nothing f g =
      goes-both Nothing (OfDefinitions t definitions) (HoldsEach t definitions spread start first) (HoldsEach t definitions none first second) (Definitions t definitions)
      old mid new (each-stays definitions spread start definitions first) joins f g
    where
      held : (s : Stage) → HoldsEach t definitions spread start first s → HoldsEach t definitions none first second s → (k : ℕ) → Contains second k → IsHeld t s k
      held s one other k i = elim (other.held k i) [
        | inl j ↦ elim (one.held k j) [ inl l ↦ in-nothing k (subst (λ ns. Contains ns k) empty l) | inr h ↦ h ]
        | inr h ↦ h
      ]

      joins : (s : Stage) → HoldsEach t definitions spread start first s → HoldsEach t definitions none first second s → Definitions t definitions s
      joins s one other k less = elim (other.each k less) [ inl i ↦ in-nothing k (subst (λ ns. Contains ns k) nothing i) | inr i ↦ held s one other k i ]
