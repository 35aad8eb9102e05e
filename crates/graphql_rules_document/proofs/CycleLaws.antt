-- Fragments without cycles: they do not reach themselves, they are ranked, and they end.
use Rattle.std.proofs.Common.{◌≡◌, ◌≢◌, ◌↔◌, ℕ, zero, suc, ◌<◌, ◌≤◌, Bool, true, false, cond, List, [], ◌∷◌, length, get_or, refl, sym, ap, subst, ◌∙◌, inl, inr, arith}
use Rattle.std.specs.List.{All, AllByRecursion as Each, Contains, count_by, sum_by}
use Rattle.std.proofs.lemmas.Bool.{both_ways, cases_lt, false_from_ne_true, false≢true}
use Rattle.std.proofs.lemmas.List.{get_or-map, length-map}
use Rattle.std.proofs.lemmas.List.Elements.{All-contains, Contains-get_or}
use Rattle.std.proofs.lemmas.List.Sums.{count_by-le-length, sum_by-cons, sum_by-le-sum_by}
use Rattle.graphql_names.specs.Names.{Bytes, is_one_of}
use Rattle.graphql_rules_document.specs.Reached.{IsReached, at_once, through, names_of, reached}
use Rattle.graphql_rules_document.specs.Scopes.{FragmentScope, Spread}
use Rattle.graphql_rules_document.proofs.LeastLemmas.{IsClosed, each_at, each_from, reached_closed, reached_is, reached_within}
use Rattle.graphql_rule_errors.proofs.NoFaultLemmas.{none_if, none_told}
use Rattle.graphql_rules_document.specs.Ends.{EndsWithin, IsRanking}
use Rattle.graphql_rules_document.specs.NoFragmentCycles.{cycle_at, cycles_in, no_fragment_cycles_faults}

-- ---- counts of what passes a test

module _ {A : Type 0} (p q : A → Bool) (more : (x : A) → p x ≡ true → q x ≡ true) where
  bit_le : (b c : Bool) → (b ≡ true → c ≡ true) → cond b 1 0 ≤ cond c 1 0
  bit_le true true f = omega arith
  bit_le true false f = absurd (false≢true (f refl))
  bit_le false true f = omega arith
  bit_le false false f = omega arith

  bit_back : (b c : Bool) → cond c 1 0 ≤ cond b 1 0 → c ≡ true → b ≡ true
  bit_back true c h e = refl
  bit_back false true h e = absurd (omega (arith, h))
  bit_back false false h e = e

  no_more : (xs : List A) → count_by q xs ≤ count_by p xs → Each (λ x. q x ≡ true → p x ≡ true) xs
  no_more [] h = tt
  no_more (x ∷ xs) h =
      let here = bit_le (p x) (q x) (more x) in
      let others : sum_by (λ y. cond (p y) 1 0) xs ≤ sum_by (λ y. cond (q y) 1 0) xs =
      sum_by-le-sum_by (λ y. cond (p y) 1 0) (λ y. cond (q y) 1 0) xs (λ y. bit_le (p y) (q y) (more y)) in
      let ps = sum_by-cons (λ y. cond (p y) 1 0) x xs in
      let qs = sum_by-cons (λ y. cond (q y) 1 0) x xs in
      (bit_back (p x) (q x) (omega (arith, h, here, others, ps, qs)), no_more xs (omega (arith, h, here, others, ps, qs)))

  -- where one more passes, the count is higher
  fewer : (xs : List A) (x : A) → Contains xs x → p x ≡ false → q x ≡ true → count_by p xs < count_by q xs
  fewer xs x there out within =
      elim (cases_lt (count_by p xs) (count_by q xs)) [
        | inl h ↦ h
        | inr h ↦ absurd (both_ways (p x) out (each_at (λ y. q y ≡ true → p y ≡ true) xs x (no_more xs h) there within))
      ]

-- ---- spreads and their names

spreads_name : (xs : List Spread) (s : Spread) → Contains xs s → Contains (names_of xs) s.name
spreads_name xs s c = (c.0, omega (arith, c.1, length-map xs (λ x. x.name)), get_or-map (λ x. x.name) xs c.0 s s.name c.1 ∙ ap (λ x. x.name) c.2)

each_name : (Q : Bytes → Type 0) (xs : List Spread) → Each (λ s. Q s.name) xs → Each Q (names_of xs)
each_name Q [] h = tt
each_name Q (s ∷ xs) h = (h.0, each_name Q xs h.1)

names_from : (Q : Bytes → Type 0) (xs : List Spread) → ((s : Spread) → Contains xs s → Q s.name) → Each Q (names_of xs)
names_from Q xs h = each_name Q xs (each_from (λ s. Q s.name) xs h)

names_all : (Q : Bytes → Type 0) (xs : List Spread) → All (λ s. Q s.name) xs → Each Q (names_of xs)
names_all Q xs h = names_from Q xs (λ s there. All-contains (λ s. Q s.name) xs s h there)

-- a name that is spread somewhere
abbrev alone : Bytes → Spread
alone name = record { name = name; place = record { index = 0; line = 0; column = 0 } }

first_of : {A : Type 0} (x : A) (xs : List A) → Contains (x ∷ xs) x
first_of x xs = (0, omega arith, refl)

module _ (fragments : List FragmentScope) where
  abbrev ReachesNotItself : FragmentScope → Type 0
  ReachesNotItself f = IsReached fragments f.spreads f.name → ⊥

  closed_from : (Q : Bytes → Type 0) → ((f : FragmentScope) → Contains fragments f → Q f.name → All (λ s. Q s.name) f.spreads) → IsClosed fragments Q
  closed_from Q h = each_from (λ f. Q f.name → Each Q (names_of f.spreads)) fragments (λ f there q. names_all Q f.spreads (h f there q))

  -- ---- no fragment reaches itself

  one_of_them : (spreads : List Spread) (name : Bytes) → Contains (names_of spreads) name → (s : Spread) × Contains spreads s × IsReached fragments (s ∷ []) name
  one_of_them spreads name c =
      let within : c.0 < length spreads = omega (arith, c.1, length-map spreads (λ x. x.name)) in
      let s = get_or spreads c.0 (alone name) in
      let same : s.name ≡ name = sym (get_or-map (λ x. x.name) spreads c.0 (alone name) name within) ∙ c.2 in
      (s, Contains-get_or spreads c.0 (alone name) within, at_once name (0, omega arith, same))

  -- what some spreads reach, one of them reaches
  reached_by_one : (spreads : List Spread) (name : Bytes) → IsReached fragments spreads name → (s : Spread) × Contains spreads s × IsReached fragments (s ∷ []) name
  reached_by_one spreads name (at_once n there) = one_of_them spreads n there
  reached_by_one spreads name (through f n there r spread) = let one = reached_by_one spreads f.name r in (one.0, one.1, through f n there one.2 spread)

  reached_further : (spreads : List Spread) (s : Spread) → IsReached fragments spreads s.name → (name : Bytes) → IsReached fragments (s ∷ []) name → IsReached fragments spreads name
  reached_further spreads s r = reached_within (IsReached fragments spreads) fragments (s ∷ []) (r, tt) (reached_closed fragments spreads)

  no_cycle_at : (f : FragmentScope) → (cycles_in fragments f ≡ []) ↔ ReachesNotItself f
  no_cycle_at f =
      let each = none_told (cycle_at fragments f) (λ s. IsReached fragments (s ∷ []) f.name → ⊥)
      (λ s. none_if (is_one_of (reached fragments (s ∷ [])) f.name) (s.place ∷ []) (IsReached fragments (s ∷ []) f.name) (reached_is fragments (s ∷ []) f.name)) f.spreads in (
        λ h r. let one = reached_by_one f.spreads f.name r in All-contains (λ s. IsReached fragments (s ∷ []) f.name → ⊥) f.spreads one.0 (each.0 h) one.1 one.2,
        λ h. each.1 (λ k d within r.
            let s = get_or f.spreads k d in
            h (reached_further f.spreads s (at_once s.name (spreads_name f.spreads s (Contains-get_or f.spreads k d within))) f.name r)),
      )

  pub none_reaches_itself : (no_fragment_cycles_faults fragments ≡ []) ↔ All ReachesNotItself fragments
  none_reaches_itself = none_told (cycles_in fragments) ReachesNotItself no_cycle_at fragments

  -- ---- ranks

  abbrev reaches : Bytes → FragmentScope → Bool
  reaches name f = is_one_of (reached fragments (alone name ∷ [])) f.name

  -- how many fragments a name reaches, its own among them
  abbrev rank_of : Bytes → ℕ
  rank_of name = count_by (reaches name) fragments

  reaches_itself : (f : FragmentScope) → reaches f.name f ≡ true
  reaches_itself f = (reached_is fragments (alone f.name ∷ []) f.name).1 (at_once f.name (first_of f.name []))

  -- what it spreads reaches fewer fragments
  falls : (f : FragmentScope) → Contains fragments f → ReachesNotItself f → (s : Spread) → Contains f.spreads s → rank_of s.name < rank_of f.name
  falls f there not_itself s spread =
      let named = spreads_name f.spreads s spread in
      let below : IsReached fragments (alone f.name ∷ []) s.name = through f s.name there (at_once f.name (first_of f.name [])) named in
      let further : (g : FragmentScope) → reaches s.name g ≡ true → reaches f.name g ≡ true =
      λ g h. (reached_is fragments (alone f.name ∷ []) g.name).1
      (reached_further (alone f.name ∷ []) (alone s.name) below g.name ((reached_is fragments (alone s.name ∷ []) g.name).0 h)) in
      fewer (reaches s.name) (reaches f.name) further fragments f there
      (false_from_ne_true (reaches s.name f)
      (λ h. not_itself (reached_further f.spreads (alone s.name) (at_once s.name named) f.name ((reached_is fragments (alone s.name ∷ []) f.name).0 h))))
      (reaches_itself f)

  ranked : All ReachesNotItself fragments → IsRanking fragments rank_of
  ranked h = λ k d within.
      let f = get_or fragments k d in
      let there = Contains-get_or fragments k d within in (
        omega (arith, fewer (λ _. false) (reaches f.name) (λ g e. cc) fragments f there refl (reaches_itself f)),
        count_by-le-length (reaches f.name) fragments,
        λ j s inside. falls f there (h k d within) (get_or f.spreads j s) (Contains-get_or f.spreads j s inside),
      )

  falls_to : (rank : Bytes → ℕ) → IsRanking fragments rank → All ReachesNotItself fragments
  falls_to rank ranks = λ k d within r.
      let f = get_or fragments k d in
      let lower : rank f.name < rank f.name =
      reached_within (λ name. rank name < rank f.name) fragments f.spreads (names_all (λ name. rank name < rank f.name) f.spreads (ranks k d within).2)
      (closed_from (λ name. rank name < rank f.name)
      (λ g there low j s inside. omega (arith, low, (All-contains (λ g. (0 < rank g.name) × (rank g.name ≤ length fragments) × All (λ s. rank s.name < rank g.name) g.spreads) fragments g ranks there).2 j s inside)))
      f.name r in
      omega (arith, lower)

  pub are_ranked : (no_fragment_cycles_faults fragments ≡ []) ↔ ((rank : Bytes → ℕ) × IsRanking fragments rank)
  are_ranked = (λ h. (rank_of, ranked (none_reaches_itself.0 h)), λ r. none_reaches_itself.1 (falls_to r.0 r.1))

  -- ---- ends

  pub ends_from : (rank : Bytes → ℕ) → IsRanking fragments rank → (n : ℕ) (name : Bytes) → rank name ≤ n → EndsWithin fragments n name
  ends_from rank ranks zero name low = λ k d within e. absurd (omega (arith, (ranks k d within).0, ap rank e, low))
  ends_from rank ranks (suc n) name low = λ k d within e j s inside. ends_from rank ranks n (get_or (get_or fragments k d).spreads j s).name (omega (arith, (ranks k d within).2 j s inside, ap rank e, low))

  pub ends_later : (n : ℕ) (name : Bytes) → EndsWithin fragments n name → EndsWithin fragments (suc n) name
  ends_later zero name ends = λ k d within e. absurd (ends k d within e)
  ends_later (suc n) name ends = λ k d within e j s inside. ends_later n (get_or (get_or fragments k d).spreads j s).name (ends k d within e j s inside)

  -- what ends within some levels ends within more
  pub ends_more : (n m : ℕ) (name : Bytes) → n ≤ m → EndsWithin fragments n name → EndsWithin fragments m name
  ends_more n zero name le ends = let none : n ≡ 0 = omega (arith, le) in subst (λ k. EndsWithin fragments k name) none ends
  ends_more n (suc m) name le ends =
      elim (cases_lt m n) [
        | inl h ↦ (let same : n ≡ suc m = omega (arith, le, h) in subst (λ k. EndsWithin fragments k name) same ends)
        | inr h ↦ ends_later m name (ends_more n m name h ends)
      ]

  pub ends_spread : (n : ℕ) (f : FragmentScope) → Contains fragments f → EndsWithin fragments (suc n) f.name → All (λ s. EndsWithin fragments n s.name) f.spreads
  ends_spread n f there ends = All-contains (λ g. g.name ≡ f.name → All (λ s. EndsWithin fragments n s.name) g.spreads) fragments f ends there refl

  ends_somewhere : (f : FragmentScope) → Contains fragments f → EndsWithin fragments zero f.name → ⊥
  ends_somewhere f there ends = All-contains (λ g. g.name ≢ f.name) fragments f ends there refl

  ends_closed : (n : ℕ) → IsClosed fragments (EndsWithin fragments n)
  ends_closed zero = closed_from (EndsWithin fragments zero) (λ f there ends. absurd (ends_somewhere f there ends))
  ends_closed (suc n) = closed_from (EndsWithin fragments (suc n)) (λ f there ends j s inside. ends_later n (get_or f.spreads j s).name (ends_spread n f there ends j s inside))

  -- what reaches itself does not end
  ends_never : (f : FragmentScope) → Contains fragments f → IsReached fragments f.spreads f.name → (n : ℕ) → EndsWithin fragments n f.name → ⊥
  ends_never f there r zero ends = ends_somewhere f there ends
  ends_never f there r (suc n) ends =
      ends_never f there r n
      (reached_within (EndsWithin fragments n) fragments f.spreads (names_all (EndsWithin fragments n) f.spreads (ends_spread n f there ends)) (ends_closed n) f.name r)

  pub fragments_end : (no_fragment_cycles_faults fragments ≡ []) ↔ ((name : Bytes) → EndsWithin fragments (length fragments) name)
  fragments_end = (
    λ h name. ends_from rank_of (ranked (none_reaches_itself.0 h)) (length fragments) name (count_by-le-length (reaches name) fragments),
    λ ends. none_reaches_itself.1
        (λ k d within r. ends_never (get_or fragments k d) (Contains-get_or fragments k d within) r (length fragments) (ends (get_or fragments k d).name)),
  )
