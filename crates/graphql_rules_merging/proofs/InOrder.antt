-- Conflicts in order, and of those of the same places one.
use Rattle.std.proofs.Common.{◌≡◌, refl, ap, sym, subst, ◌∙◌, ◌+◌, ◌≤◌, arith, eqb, get_or, Bool, true, false, ◌&&◌, List, [], ◌∷◌, map, ◌↔◌, Ordering, is_lt, is_eq}
use Rattle.std.specs.List.{All, AllByRecursion, AllPairs, Contains, dedup}
use Rattle.std.specs.List.Sorted.{IsSorted, IsStrictlySortedBy, IsPermutation}
use Rattle.std.specs.Cmp.{IsEquivalence, IsTotalOrder}
use Rattle.std.specs.Cmp.Lexicographic.{pointwise, pointwise_decides, slice_cmp}
use Rattle.std.specs.Bool.{Decides}
use Rattle.std.specs.Ordering.{nat_cmp, on, ordering_reverse, ordering_then}
use Rattle.std.proofs.lemmas.Bool.{false≢true}
use Rattle.std.proofs.lemmas.Bool.Decides.{Decides-eqb}
use Rattle.std.proofs.lemmas.Cmp.{lists_total, on_total, tied_itself}
use Rattle.std.proofs.lemmas.List.Elements.{Contains-get_or}
use Rattle.std.proofs.lemmas.List.Kept.{Contains-from_dedup, IsStrictlySortedBy-dedup}
use Rattle.std.proofs.lemmas.List.Sorted.{Contains-permutation, IsPermutation-sym, ranks_by, sorted_far}
use Rattle.std.proofs.lemmas.Map.Keys.{Less-from_sorted}
use Rattle.graphql_text.specs.declared.position.SourcePosition.{SourcePosition}
use Rattle.graphql_text.specs.contracts.position.SourcePositionPartialEq.TheImpl as position
use Rattle.graphql_text.specs.contracts.position.SourcePositionOrd.TheImpl as position_order
use Rattle.graphql_text.specs.contracts.position.SourcePositionOrd.TheImpl.Laws as position_laws
use Rattle.graphql_rule_errors.specs.declared.rule_error.RuleError.{RuleError}
use Rattle.graphql_rule_errors.specs.contracts.rule_error.RuleErrorOrd.TheImpl as ord
use Rattle.graphql_rule_errors.specs.Places.{places}
use Rattle.graphql_merging.specs.declared.difference.Difference.{Difference}
use Rattle.graphql_merging.specs.declared.difference.Difference.TheVariants as difference
use Rattle.graphql_merging.specs.contracts.difference.DifferenceOrd.TheImpl as reason
use Rattle.graphql_bundles.specs.declared.conflict.Conflict.{Conflict}
use Rattle.graphql_bundles.specs.contracts.conflict.ConflictOrd.TheImpl as conflict
use Rattle.graphql_bundles.specs.contracts.conflict.ConflictOrd.TheImpl.Laws as conflict_laws
use Rattle.graphql_bundles.specs.Conflicts as conflicts
use Rattle.graphql_bundles.specs.Conflicts.{HasFirstReason, before, error_of}
use Rattle.graphql_rules_merging.proofs.Lists.{map_has, map_of}
use Rattle.graphql_rules_merging.proofs.Lowest.{low-dedup, one-of}

both : (p q : Bool) → (p && q) ≡ true → (p ≡ true) × (q ≡ true)
both true q e = (refl, e)
both false q e = absurd (false≢true e)

-- a list that strictly ascends is in order
pub in-order : {X : Type 0} {R : X → X → Ordering} → IsTotalOrder R → (xs : List X) → IsStrictlySortedBy R xs → IsSorted R xs
in-order {R = R} o xs h k d low within =
    ap is_lt (o.antisymm (get_or xs (k + 1) d) (get_or xs k d) ∙ ap ordering_reverse (Less-from_sorted R xs k (k + 1) d h (omega arith) within))

same-place : (p q : SourcePosition) → position.ghosts.eq p q ≡ true → p ≡ q
same-place p q e =
    let one = both (eqb p.index q.index) (eqb p.line q.line && eqb p.column q.column) e in
    let other = both (eqb p.line q.line) (eqb p.column q.column) one.1 in
    let index = (Decides-eqb p.index q.index).0 one.0 in
    let line = (Decides-eqb p.line q.line).0 other.0 in
    let column = (Decides-eqb p.column q.column).0 other.1 in
    λ i. record { index = index i; line = line i; column = column i }

itself : (p : SourcePosition) → position.ghosts.eq p p ≡ true
itself p = (λ i. (Decides-eqb p.index p.index).1 refl i && ((Decides-eqb p.line p.line).1 refl i && (Decides-eqb p.column p.column).1 refl i))

decides : (p q : SourcePosition) → Decides (position.ghosts.eq p q) (p ≡ q)
decides p q = (same-place p q, λ same. subst (λ r. position.ghosts.eq p r ≡ true) same (itself p))

-- whether two conflicts name the same places
abbrev pub same_places : Conflict → Conflict → Bool
same_places a b = pointwise position.ghosts.eq a.locations b.locations

same-named : (a b : Conflict) → same_places a b ≡ true → a.locations ≡ b.locations
same-named a b = (pointwise_decides decides a.locations b.locations).0

named-same : (a b : Conflict) → a.locations ≡ b.locations → same_places a b ≡ true
named-same a b = (pointwise_decides decides a.locations b.locations).1

abbrev Placed : List SourcePosition → List SourcePosition → Ordering
Placed = slice_cmp position_order.ghosts.cmp

placed-total : IsTotalOrder Placed
placed-total = lists_total position_laws.lawful.total

-- conflicts by their places alone
abbrev ByPlaces : Conflict → Conflict → Ordering
ByPlaces = on (λ (c : Conflict). c.locations) Placed

by-places : IsTotalOrder ByPlaces
by-places = on_total (λ (c : Conflict). c.locations) placed-total

and-then : (a b : Ordering) → is_eq (ordering_then a b) ≡ (is_eq a && is_eq b)
and-then Ordering.Less b = refl
and-then Ordering.Equal b = refl
and-then Ordering.Greater b = refl

tied : (xs ys : List SourcePosition) → pointwise position.ghosts.eq xs ys ≡ is_eq (Placed xs ys)
tied [] [] = refl
tied [] (y ∷ ys) = refl
tied (x ∷ xs) [] = refl
tied (x ∷ xs) (y ∷ ys) =
    (λ i. position_laws.lawful.matches_eq x y i && tied xs ys i)
    ∙ sym (and-then (position_order.ghosts.cmp x y) (Placed xs ys))

-- the first of two comparisons in turn does not say more where both do not
not-less : (a b : Ordering) → is_lt (ordering_then a b) ≡ false → is_lt a ≡ false
not-less Ordering.Less b h = h
not-less Ordering.Equal b h = refl
not-less Ordering.Greater b h = refl

abbrev Low : Conflict → Conflict → Type 0
Low c d = is_lt (conflict.ghosts.cmp d c) ≡ false

low-itself : (c : Conflict) → Low c c
low-itself c = ap is_lt (tied_itself conflict_laws.lawful.total c)

-- of two reasons the one that is not less stands before no other
reason-low : (p q : Difference) → is_lt (reason.ghosts.cmp q p) ≡ false → before p ≤ before q
reason-low difference.Names difference.Names h = omega arith
reason-low difference.Names difference.Arguments h = omega arith
reason-low difference.Names difference.Types h = omega arith
reason-low difference.Arguments difference.Names h = absurd (false≢true (sym h))
reason-low difference.Arguments difference.Arguments h = omega arith
reason-low difference.Arguments difference.Types h = omega arith
reason-low difference.Types difference.Names h = absurd (false≢true (sym h))
reason-low difference.Types difference.Arguments h = absurd (false≢true (sym h))
reason-low difference.Types difference.Types h = omega arith

abbrev Rest : Conflict → Conflict → Ordering
Rest d c = ordering_then (reason.ghosts.cmp d.reason c.reason) (slice_cmp nat_cmp d.message c.message)

-- of conflicts of the same places the lower has no later reason
low-reason : (c d : Conflict) → d.locations ≡ c.locations → Low c d → before c.reason ≤ before d.reason
low-reason c d same low =
    let equal : Placed d.locations c.locations ≡ Ordering.Equal = ap (λ ps. Placed ps c.locations) same ∙ tied_itself placed-total c.locations in
    reason-low c.reason d.reason
    (not-less (reason.ghosts.cmp d.reason c.reason) (slice_cmp nat_cmp d.message c.message)
    (sym (ap (λ a. is_lt (ordering_then a (Rest d c))) equal) ∙ low))

-- the errors name the places of the conflicts
pub named-alike : (found : List Conflict) → places (map error_of found) ≡ conflicts.places found
named-alike [] = refl
named-alike (c ∷ cs) = ap (λ rest. c.locations ∷ rest) (named-alike cs)

all-named : (x : Conflict) (xs : List Conflict) → AllByRecursion (λ y. ByPlaces x y ≡ Ordering.Less) xs
    → AllByRecursion (λ e. Placed x.locations e ≡ Ordering.Less) (conflicts.places xs)
all-named x [] h = h
all-named x (y ∷ ys) h = (h.0, all-named x ys h.1)

rise-named : (xs : List Conflict) → IsStrictlySortedBy ByPlaces xs → IsStrictlySortedBy Placed (conflicts.places xs)
unfolding IsStrictlySortedBy
rise-named [] h = h
rise-named (x ∷ xs) h = (all-named x xs h.0, rise-named xs h.1)

all-whole : (x : RuleError) (xs : List RuleError) → AllByRecursion (λ e. Placed x.locations e ≡ Ordering.Less) (places xs)
    → AllByRecursion (λ y. ord.ghosts.cmp x y ≡ Ordering.Less) xs
all-whole x [] h = h
all-whole x (y ∷ ys) h = (ap (λ a. ordering_then a (slice_cmp nat_cmp x.message y.message)) h.0, all-whole x ys h.1)

-- errors whose places strictly ascend do
pub rise-whole : (xs : List RuleError) → IsStrictlySortedBy Placed (places xs) → IsStrictlySortedBy ord.ghosts.cmp xs
unfolding IsStrictlySortedBy
rise-whole [] h = h
rise-whole (x ∷ xs) h = (all-whole x xs h.0, rise-whole xs h.1)

module _ (found moved : List Conflict) (permuted : IsPermutation found moved) (sorted : IsSorted conflict.ghosts.cmp moved) where
  abbrev kept : List Conflict
  kept = dedup same_places moved

  by-place : IsSorted ByPlaces moved
  by-place k d low within =
      let x = get_or moved k d in
      let y = get_or moved (k + 1) d in
      not-less (Placed y.locations x.locations) (Rest y x) (sorted k d low within)

  rises : IsStrictlySortedBy ByPlaces kept
  rises = IsStrictlySortedBy-dedup by-places (λ x y. tied x.locations y.locations) moved by-place

  pub once-each : IsStrictlySortedBy Placed (places (map error_of kept))
  once-each = subst (IsStrictlySortedBy Placed) (sym (named-alike kept)) (rise-named kept rises)

  equivalence : IsEquivalence same_places
  equivalence = record {
    refl = λ x. named-same x x refl;
    symm = λ x y. tied x.locations y.locations ∙ ap is_eq (placed-total.antisymm x.locations y.locations) ∙ turned (Placed y.locations x.locations) ∙ sym (tied y.locations x.locations);
    congr = λ x y z e. ap (λ ps. pointwise position.ghosts.eq ps z.locations) (same-named x y e);
  }
    where
      turned : (a : Ordering) → is_eq (ordering_reverse a) ≡ is_eq a
      turned Ordering.Less = refl
      turned Ordering.Equal = refl
      turned Ordering.Greater = refl

  far : AllPairs Low moved
  far i j d below inside = sorted_far (λ x y. is_lt (conflict.ghosts.cmp x y)) (ranks_by conflict_laws.lawful.total (λ a. a)) moved sorted i j d (omega arith) inside

  was-found : (c : Conflict) → Contains kept c → Contains found c
  was-found c i = Contains-permutation moved found c (IsPermutation-sym found moved permuted) (Contains-from_dedup same_places moved c i)

  -- each that is found has one of its places that is kept and is no greater
  lowest : (d : Conflict) → Contains found d → (c : Conflict) × Contains kept c × (d.locations ≡ c.locations) × Low c d
  lowest d i =
      let a = low-dedup equivalence Low low-itself moved d far (Contains-permutation found moved d permuted i) in
      (a.1, (a.0, a.2, a.3), same-named d a.1 a.4.0, a.4.1)

  pub still-named : (e : List SourcePosition) → Contains (conflicts.places found) e ↔ Contains (places (map error_of kept)) e
  still-named e = (
    (λ i.
        let d = map_of (λ (c : Conflict). c.locations) found e i in
        let c = lowest d.0 d.1 in
        subst (λ es. Contains es e) (sym (named-alike kept))
        (subst (Contains (conflicts.places kept)) (sym c.2 ∙ d.2) (map_has (λ (c : Conflict). c.locations) kept c.0 c.1))),
    (λ i.
        let c = map_of (λ (c : Conflict). c.locations) kept e (subst (λ es. Contains es e) (named-alike kept) i) in
        subst (Contains (conflicts.places found)) c.2 (map_has (λ (c : Conflict). c.locations) found c.0 (was-found c.0 c.1))),
  )

  has-first : (c : Conflict) → Contains kept c → HasFirstReason found c
  has-first c i = (
    was-found c i,
    λ other j at.
        let k = lowest other j in
        let one : k.0 ≡ c = one-of by-places kept rises k.0 c k.1 i (ap (λ ps. Placed ps c.locations) (sym k.2 ∙ at) ∙ tied_itself placed-total c.locations) in
        low-reason c other at (subst (λ (x : Conflict). Low x other) one k.3),
  )

  pub first-each : All (λ error. (c : Conflict) × HasFirstReason found c × (error ≡ error_of c)) (map error_of kept)
  first-each k d within =
      let errors = map error_of kept in
      let c = map_of error_of kept (get_or errors k d) (Contains-get_or errors k d within) in
      (c.0, has-first c.0 c.1, sym c.2)

-- what is told of what is found
pub record Told (found : List Conflict) (errors : List RuleError) : Type 0 where
  pub once : IsStrictlySortedBy Placed (places errors)
  pub same : (e : List SourcePosition) → Contains (conflicts.places found) e ↔ Contains (places errors) e
  pub first : All (λ error. (c : Conflict) × HasFirstReason found c × (error ≡ error_of c)) errors

pub told-kept : (found moved : List Conflict) → IsPermutation found moved → IsSorted conflict.ghosts.cmp moved
    → (errors : List RuleError) → errors ≡ map error_of (dedup same_places moved) → Told found errors
told-kept found moved permuted sorted errors is =
    subst (Told found) (sym is) (record {
      once = once-each found moved permuted sorted;
      same = still-named found moved permuted sorted;
      first = first-each found moved permuted sorted;
    })
