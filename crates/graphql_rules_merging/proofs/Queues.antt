-- Pairs that wait in tables, one for each flag.
use Rattle.std.proofs.Common.{◌≡◌, refl, ap, sym, subst, ◌∙◌, ℕ, eqb, Bool, true, false, not, ◌&&◌, ◌||◌, List, if◌then◌else◌, ◌⊎◌, inl, inr}
use Rattle.std.proofs.lemmas.Bool.{or_cases}
use Rattle.std.proofs.lemmas.Bool.Decides.{Decides-eqb}
use Rattle.graphql_rules_merging.specs.declared.agenda.SetPair.{SetPair}
use Rattle.graphql_rules_merging.specs.PairTables.{has_pair, PutsPair, HasNone, HasBegun, GivesPair}
use Rattle.graphql_rules_merging.specs.Agenda.{listed_in, IsListed, Lists, Takes}

flags : (x y : Bool) → (x ≡ y) ⊎ (x ≡ y → ⊥)
flags true true = inl refl
flags true false = inr (λ e. cc)
flags false true = inr (λ e. cc)
flags false false = inl refl

-- a test of a pair, and what is left where one is taken out
and-both : (x y : Bool) → (x && y) ≡ true → (x ≡ true) × (y ≡ true)
and-both true y e = (refl, e)
and-both false y e = cc

both-in : (x y : Bool) → x ≡ true → y ≡ true → (x && y) ≡ true
both-in true y e f = f
both-in false y e f = cc

left-or-out : (x y : Bool) → y ≡ true → (x ≡ true) ⊎ ((not x && y) ≡ true)
left-or-out true y e = inl refl
left-or-out false y e = inr e

was-in : (x y : Bool) → (not x && y) ≡ true → y ≡ true
was-in true y e = cc
was-in false y e = e

put-in : (x y : Bool) → x ≡ true → (x || y) ≡ true
put-in true y e = refl
put-in false y e = cc

still-in : (x y : Bool) → y ≡ true → (x || y) ≡ true
still-in true y e = refl
still-in false y e = e

same-pair : (a b : SetPair) → a.left ≡ b.left → a.right ≡ b.right → a.around ≡ b.around → a ≡ b
same-pair a b left right around = λ i. record { left = left i; right = right i; around = around i }

abbrev Tables : Type 0
Tables = Bool → List (List ℕ)

-- but for one flag, the tables have the same pairs
abbrev SameBut : Bool → Tables → Tables → Type 0
SameBut x old new = (y : Bool) → (y ≡ x → ⊥) → (p q : ℕ) → has_pair (new y) p q ≡ has_pair (old y) p q

module _ (pair : SetPair) (waiting given : Tables) (waiting' given' : Tables) where
  abbrev x : Bool
  x = pair.around

  -- what holds of the pairs of one flag, and of those of the other, holds of each
  by-flag : (w w' : Tables) (P : SetPair → Type 0) → SameBut x w w'
      → ((k : SetPair) → k.around ≡ x → has_pair (w' x) k.left k.right ≡ true → P k)
      → ((k : SetPair) → has_pair (w k.around) k.left k.right ≡ true → P k)
      → (k : SetPair) → has_pair (w' k.around) k.left k.right ≡ true → P k
  by-flag w w' P same one other k i = elim (flags k.around x) [
    | inl e ↦ one k e (subst (λ y. has_pair (w' y) k.left k.right ≡ true) e i)
    | inr d ↦ other k (sym (same k.around d k.left k.right) ∙ i)
  ]

  -- what has a pair of the flag
  of-flag : (w : Tables) (k : SetPair) → k.around ≡ x → has_pair (w x) k.left k.right ≡ true → has_pair (w k.around) k.left k.right ≡ true
  of-flag w k e i = subst (λ y. has_pair (w y) k.left k.right ≡ true) (sym e) i

  -- pairs that were there and are still
  stays : (w w' : Tables) → SameBut x w w' → ((p q : ℕ) → has_pair (w x) p q ≡ true → has_pair (w' x) p q ≡ true)
      → (k : SetPair) → has_pair (w k.around) k.left k.right ≡ true → has_pair (w' k.around) k.left k.right ≡ true
  stays w w' same still k i = elim (flags k.around x) [
    | inl e ↦ of-flag w' k e (still k.left k.right (subst (λ y. has_pair (w y) k.left k.right ≡ true) e i))
    | inr d ↦ same k.around d k.left k.right ∙ i
  ]

  lists-begun : SameBut x waiting waiting' → ((y : Bool) → given' y ≡ given y) → HasBegun pair.left pair.right (given x) (waiting x) (waiting' x)
      → Lists pair (listed_in waiting given) (listed_in waiting' given')
  lists-begun same alike h = record {
    still = (λ k i. elim i [ inl w ↦ inl (stays waiting waiting' same h.still k w) | inr g ↦ inr (kept k ∙ g) ]);
    listed = elim h.begun [ inl w ↦ inl w | inr g ↦ inr (kept pair ∙ g) ];
    waits = by-flag waiting waiting' (λ k. (has_pair (waiting k.around) k.left k.right ≡ true) ⊎ (k ≡ pair)) same
        (λ k e i. elim (h.only k.left k.right i) [ inl j ↦ inl (of-flag waiting k e j) | inr j ↦ inr (same-pair k pair j.0 j.1 e) ]) (λ k i. inl i);
    given = kept;
  }
    where
      kept : (k : SetPair) → has_pair (given' k.around) k.left k.right ≡ has_pair (given k.around) k.left k.right
      kept k = ap (λ t. has_pair t k.left k.right) (alike k.around)

  abbrev IsIt : ℕ → ℕ → Bool
  IsIt p q = eqb q pair.right && eqb p pair.left

  is-it : (k : SetPair) → k.around ≡ x → IsIt k.left k.right ≡ true → k ≡ pair
  is-it k e i =
      let both = and-both (eqb k.right pair.right) (eqb k.left pair.left) i in
      same-pair k pair ((Decides-eqb k.left pair.left).0 both.1) ((Decides-eqb k.right pair.right).0 both.0) e

  takes-given : SameBut x waiting waiting' → SameBut x given given' → GivesPair pair.left pair.right (given x) (given' x) (waiting x) (waiting' x)
      → Takes pair (listed_in waiting given) (listed_in waiting' given')
  takes-given same alike h = record {
    waited = h.taken.had;
    fresh = h.fresh;
    out = put pair.left pair.right ∙ put-in (IsIt pair.left pair.right) _ it;
    kept = stays given given' alike (λ p q j. put p q ∙ still-in (IsIt p q) _ j);
    still = (λ k i. elim i [ inl w ↦ out k w | inr g ↦ inr (stays given given' alike (λ p q j. put p q ∙ still-in (IsIt p q) _ j) k g) ]);
    waits = by-flag waiting waiting' (λ k. has_pair (waiting k.around) k.left k.right ≡ true) same
        (λ k e i. of-flag waiting k e (was-in (IsIt k.left k.right) _ (sym (left k.left k.right) ∙ i))) (λ k i. i);
    given = by-flag given given' (λ k. (has_pair (given k.around) k.left k.right ≡ true) ⊎ (k ≡ pair)) alike
        (λ k e i. elim (or_cases (IsIt k.left k.right) (has_pair (given x) k.left k.right) (sym (put k.left k.right) ∙ i)) [
          | inl j ↦ inr (is-it k e j)
          | inr j ↦ inl (of-flag given k e j)
        ])
        (λ k i. inl i);
  }
    where
      put : PutsPair pair.left pair.right (given x) (given' x)
      put = h.put

      left : (p q : ℕ) → has_pair (waiting' x) p q ≡ (not (IsIt p q) && has_pair (waiting x) p q)
      left = h.taken.rest

      it : IsIt pair.left pair.right ≡ true
      it = both-in (eqb pair.right pair.right) (eqb pair.left pair.left) ((Decides-eqb pair.right pair.right).1 refl) ((Decides-eqb pair.left pair.left).1 refl)

      out : (k : SetPair) → has_pair (waiting k.around) k.left k.right ≡ true → IsListed (listed_in waiting' given') k
      out k w = elim (flags k.around x) [
        | inl e ↦ elim (left-or-out (IsIt k.left k.right) (has_pair (waiting x) k.left k.right) (subst (λ y. has_pair (waiting y) k.left k.right ≡ true) e w)) [
          | inl j ↦ inr (of-flag given' k e (put k.left k.right ∙ put-in (IsIt k.left k.right) _ j))
          | inr j ↦ inl (of-flag waiting' k e (left k.left k.right ∙ j))
        ]
        | inr d ↦ inl (same k.around d k.left k.right ∙ w)
      ]

-- by two tables
abbrev pub choose : List (List ℕ) → List (List ℕ) → Tables
choose together apart around = if around then apart else together

module _ (pair : SetPair) (t a given-t given-a : List (List ℕ)) where
  -- a pair of the one flag or of the other is begun
  pub lists_apart : (a' given-a' : List (List ℕ)) → pair.around ≡ true → given-a' ≡ given-a → HasBegun pair.left pair.right given-a a a'
      → Lists pair (listed_in (choose t a) (choose given-t given-a)) (listed_in (choose t a') (choose given-t given-a'))
  lists_apart a' given-a' e same h =
      lists-begun pair (choose t a) (choose given-t given-a) (choose t a') (choose given-t given-a') others (λ y. alike y)
      (subst (λ y. HasBegun pair.left pair.right (choose given-t given-a y) (choose t a y) (choose t a' y)) (sym e) h)
    where
      others : SameBut pair.around (choose t a) (choose t a')
      others true d p q = absurd (d (sym e))
      others false d p q = refl

      alike : (y : Bool) → choose given-t given-a' y ≡ choose given-t given-a y
      alike true = same
      alike false = refl

  pub lists_together : (t' given-t' : List (List ℕ)) → pair.around ≡ false → given-t' ≡ given-t → HasBegun pair.left pair.right given-t t t'
      → Lists pair (listed_in (choose t a) (choose given-t given-a)) (listed_in (choose t' a) (choose given-t' given-a))
  lists_together t' given-t' e same h =
      lists-begun pair (choose t a) (choose given-t given-a) (choose t' a) (choose given-t' given-a) others (λ y. alike y)
      (subst (λ y. HasBegun pair.left pair.right (choose given-t given-a y) (choose t a y) (choose t' a y)) (sym e) h)
    where
      others : SameBut pair.around (choose t a) (choose t' a)
      others true d p q = refl
      others false d p q = absurd (d (sym e))

      alike : (y : Bool) → choose given-t' given-a y ≡ choose given-t given-a y
      alike true = refl
      alike false = same

module _ (left right : ℕ) (t a given-t given-a : List (List ℕ)) where
  -- a pair of the one flag or of the other is given out, of the other where none of the one waits
  pub takes_together : (t' given-t' : List (List ℕ)) → GivesPair left right given-t given-t' t t'
      → Takes (record { left = left; right = right; around = false }) (listed_in (choose t a) (choose given-t given-a)) (listed_in (choose t' a) (choose given-t' given-a))
  takes_together t' given-t' h =
      takes-given (record { left = left; right = right; around = false }) (choose t a) (choose given-t given-a) (choose t' a) (choose given-t' given-a) waits given h
    where
      waits : SameBut false (choose t a) (choose t' a)
      waits true d p q = refl
      waits false d p q = absurd (d refl)

      given : SameBut false (choose given-t given-a) (choose given-t' given-a)
      given true d p q = refl
      given false d p q = absurd (d refl)

  pub takes_apart : (t' given-t' a' given-a' : List (List ℕ)) → HasNone t t' → given-t' ≡ given-t → GivesPair left right given-a given-a' a a'
      → Takes (record { left = left; right = right; around = true }) (listed_in (choose t a) (choose given-t given-a)) (listed_in (choose t' a') (choose given-t' given-a'))
  takes_apart t' given-t' a' given-a' none same h =
      takes-given (record { left = left; right = right; around = true }) (choose t a) (choose given-t given-a) (choose t' a') (choose given-t' given-a') waits given h
    where
      waits : SameBut true (choose t a) (choose t' a')
      waits true d p q = absurd (d refl)
      waits false d p q = (none p q).1 ∙ sym (none p q).0

      given : SameBut true (choose given-t given-a) (choose given-t' given-a')
      given true d p q = absurd (d refl)
      given false d p q = ap (λ g. has_pair g p q) same
