-- As many rounds as there are fragments reach the least set of names.
use Rattle.std.proofs.Common.{◌≡◌, ◌↔◌, ℕ, zero, suc, ◌+◌, ◌<◌, ◌≤◌, Bool, true, false, ◌||◌, List, [], ◌∷◌, ◌++◌, fold, length, get_or, if◌then◌else◌, refl, sym, ap, subst, ◌∙◌, arith, ◌⊎◌, inl, inr}
use Rattle.std.specs.List.{AllByRecursion as Each, Contains}
use Rattle.std.specs.Str.{bytes_eq}
use Rattle.std.proofs.lemmas.Bool.{false≢true, or_left, or_right, or_cases, cases_lt}
use Rattle.std.proofs.lemmas.List.Elements.{All-contains, All-from_recursion, recursion_from_All, Contains-get_or}
use Rattle.std.proofs.lemmas.List.Folds.{list_any-append}
use Rattle.std.proofs.Math.Bool.{or-false}
use Rattle.graphql_names.specs.Names.{Bytes, is_one_of}
use Rattle.graphql_names.proofs.NameLemmas.{same_bytes, eq_itself}
use Rattle.graphql_rules_document.specs.Reached.{IsReached, at_once, through, names_of, with_name, grown_by, rounds, reached}
use Rattle.graphql_rules_document.specs.Scopes.{FragmentScope, Spread}

abbrev pub In : List Bytes → Bytes → Type 0
In names name = is_one_of names name ≡ true

-- ---- each of a list

pub each_from : {A : Type 0} (P : A → Type 0) (xs : List A) → ((x : A) → Contains xs x → P x) → Each P xs
each_from P xs h = recursion_from_All P xs (λ k d within. h (get_or xs k d) (Contains-get_or xs k d within))

pub each_at : {A : Type 0} (P : A → Type 0) (xs : List A) (x : A) → Each P xs → Contains xs x → P x
each_at P xs x h c = All-contains P xs x (All-from_recursion P xs h) c

pub each_weaker : {A : Type 0} (P Q : A → Type 0) → ((x : A) → P x → Q x) → (xs : List A) → Each P xs → Each Q xs
each_weaker P Q f [] h = tt
each_weaker P Q f (x ∷ xs) h = (f x h.0, each_weaker P Q f xs h.1)

each_both : {A : Type 0} (P Q R : A → Type 0) → ((x : A) → P x → Q x → R x) → (xs : List A) → Each P xs → Each Q xs → Each R xs
each_both P Q R f [] h k = tt
each_both P Q R f (x ∷ xs) h k = (f x h.0 k.0, each_both P Q R f xs h.1 k.1)

pub each_append : {A : Type 0} (P : A → Type 0) (xs ys : List A) → Each P xs → Each P ys → Each P (xs ++ ys)
each_append P [] ys h k = k
each_append P (x ∷ xs) ys h k = (h.0, each_append P xs ys h.1 k)

-- ---- names among names

pub in_self : (names : List Bytes) → Each (In names) names
in_self [] = tt
in_self (n ∷ names) = (or_left (bytes_eq n n) (is_one_of names n) (eq_itself n), each_weaker (In names) (In (n ∷ names)) (λ m h. or_right (bytes_eq m n) (is_one_of names m) h) names (in_self names))

pub each_in : (Q : Bytes → Type 0) (names : List Bytes) (name : Bytes) → Each Q names → In names name → Q name
each_in Q [] name h i = absurd (false≢true i)
each_in Q (n ∷ names) name h i =
    elim (or_cases (bytes_eq name n) (is_one_of names name) i) [ inl e ↦ subst Q (sym (same_bytes name n e)) h.0 | inr e ↦ each_in Q names name h.1 e ]

or_when : (a b : Bool) → (b ≡ true → a ≡ true) → a ≡ (a || b)
or_when true b h = refl
or_when false true h = h refl
or_when false false h = refl

or_or : (a b c : Bool) → ((a || b) || c) ≡ (a || (b || c))
or_or true b c = refl
or_or false b c = refl

with_is : (names : List Bytes) (n m : Bytes) → is_one_of (with_name names n) m ≡ (is_one_of names m || bytes_eq m n)
with_is names n m = either (is_one_of names n) refl
  where
    either : (b : Bool) → is_one_of names n ≡ b → is_one_of (if b then names else names ++ n ∷ []) m ≡ (is_one_of names m || bytes_eq m n)
    either true here = or_when (is_one_of names m) (bytes_eq m n) (λ same. ap (is_one_of names) (same_bytes m n same) ∙ here)
    either false absent = list_any-append (bytes_eq m) names (n ∷ []) ∙ ap (λ b. is_one_of names m || b) (or-false (bytes_eq m n))

all_is : (more names : List Bytes) (m : Bytes) → is_one_of (fold with_name names more) m ≡ (is_one_of names m || is_one_of more m)
all_is [] names m = sym (or-false (is_one_of names m))
all_is (n ∷ more) names m =
    all_is more (with_name names n) m ∙ ap (λ b. b || is_one_of more m) (with_is names n m) ∙ or_or (is_one_of names m) (bytes_eq m n) (is_one_of more m)

in_left : (names more : List Bytes) (m : Bytes) → In names m → In (fold with_name names more) m
in_left names more m h = all_is more names m ∙ or_left (is_one_of names m) (is_one_of more m) h

in_right : (names more : List Bytes) (m : Bytes) → In more m → In (fold with_name names more) m
in_right names more m h = all_is more names m ∙ or_right (is_one_of names m) (is_one_of more m) h

-- ---- what is there stays

keeps_if : (b : Bool) (n : Bytes) (names more : List Bytes) → In names n → In (if b then fold with_name names more else names) n
keeps_if true n names more h = in_left names more n h
keeps_if false n names more h = h

keeps : (fs : List FragmentScope) (n : Bytes) (names : List Bytes) → In names n → In (fold grown_by names fs) n
keeps [] n names h = h
keeps (f ∷ fs) n names h = keeps fs n (grown_by names f) (keeps_if (is_one_of names f.name) n names (names_of f.spreads) h)

keeps_rounds : (fs : List FragmentScope) (k : ℕ) (n : Bytes) (names : List Bytes) → In names n → In (rounds k fs names) n
keeps_rounds fs zero n names h = h
keeps_rounds fs (suc k) n names h = keeps fs n (rounds k fs names) (keeps_rounds fs k n names h)

-- ---- what a fragment that is there spreads is there after a round

takes_if : (b : Bool) (names more : List Bytes) → b ≡ true → Each (In (if b then fold with_name names more else names)) more
takes_if true names more h = each_weaker (In more) (In (fold with_name names more)) (λ n i. in_right names more n i) more (in_self more)
takes_if false names more h = absurd (false≢true h)

takes : (fs : List FragmentScope) (names : List Bytes) → Each (λ f. In names f.name → Each (In (fold grown_by names fs)) (names_of f.spreads)) fs
takes [] names = tt
takes (f ∷ fs) names = (
  λ i. each_weaker (In (grown_by names f)) (In (fold grown_by (grown_by names f) fs)) (λ n h. keeps fs n (grown_by names f) h) (names_of f.spreads) (takes_if (is_one_of names f.name) names (names_of f.spreads) i),
  each_weaker (λ g. In (grown_by names f) g.name → Each (In (fold grown_by (grown_by names f) fs)) (names_of g.spreads)) (λ g. In names g.name → Each (In (fold grown_by (grown_by names f) fs)) (names_of g.spreads))
      (λ g h i. h (keeps_if (is_one_of names f.name) g.name names (names_of f.spreads) i)) fs (takes fs (grown_by names f)),
)

-- ---- a closed set that has the start has all

-- with each name, what the fragments of that name spread
abbrev pub IsClosed : List FragmentScope → (Bytes → Type 0) → Type 0
IsClosed fs Q = Each (λ f. Q f.name → Each Q (names_of f.spreads)) fs

with_each : (Q : Bytes → Type 0) (names : List Bytes) (n : Bytes) → Q n → Each Q names → Each Q (with_name names n)
with_each Q names n q h = either (is_one_of names n)
  where
    either : (b : Bool) → Each Q (if b then names else names ++ n ∷ [])
    either true = h
    either false = each_append Q names (n ∷ []) h (q, tt)

fold_each : (Q : Bytes → Type 0) (more names : List Bytes) → Each Q more → Each Q names → Each Q (fold with_name names more)
fold_each Q [] names k h = h
fold_each Q (n ∷ more) names k h = fold_each Q more (with_name names n) k.1 (with_each Q names n k.0 h)

within_if : (Q : Bytes → Type 0) (b : Bool) (names more : List Bytes) → (b ≡ true → Each Q more) → Each Q names → Each Q (if b then fold with_name names more else names)
within_if Q true names more f h = fold_each Q more names (f refl) h
within_if Q false names more f h = h

within : (Q : Bytes → Type 0) (fs : List FragmentScope) (names : List Bytes) → IsClosed fs Q → Each Q names → Each Q (fold grown_by names fs)
within Q [] names c h = h
within Q (f ∷ fs) names c h = within Q fs (grown_by names f) c.1 (within_if Q (is_one_of names f.name) names (names_of f.spreads) (λ i. c.0 (each_in Q names f.name h i)) h)

within_rounds : (Q : Bytes → Type 0) (fs : List FragmentScope) (k : ℕ) (names : List Bytes) → IsClosed fs Q → Each Q names → Each Q (rounds k fs names)
within_rounds Q fs zero names c h = h
within_rounds Q fs (suc k) names c h = within Q fs (rounds k fs names) c (within_rounds Q fs k names c h)

-- ---- a round finds a further fragment, or the set is closed

bit : Bool → ℕ
bit true = 1
bit false = 0

abbrev count : List FragmentScope → List Bytes → ℕ
count [] names = 0
count (f ∷ fs) names = bit (is_one_of names f.name) + count fs names

bit_grows : (b c : Bool) → (b ≡ true → c ≡ true) → bit b ≤ bit c
unfolding bit
bit_grows true true f = omega arith
bit_grows true false f = absurd (false≢true (f refl))
bit_grows false c f = omega arith

bit_back : (b c : Bool) → bit c ≤ bit b → c ≡ true → b ≡ true
unfolding bit
bit_back true c h e = refl
bit_back false true h e = absurd (omega (arith, h))
bit_back false false h e = e

bit_one : (b : Bool) → bit b ≤ 1
unfolding bit
bit_one true = omega arith
bit_one false = omega arith

bit_none : (b : Bool) → bit b ≡ 0 → b ≡ true → ⊥
unfolding bit
bit_none true h e = omega (arith, h)
bit_none false h e = false≢true e

count_grows : (fs : List FragmentScope) (names more : List Bytes) → ((n : Bytes) → In names n → In more n) → count fs names ≤ count fs more
count_grows [] names more f = omega arith
count_grows (g ∷ fs) names more f = omega (arith, bit_grows (is_one_of names g.name) (is_one_of more g.name) (f g.name), count_grows fs names more f)

count_most : (fs : List FragmentScope) (names : List Bytes) → count fs names ≤ length fs
count_most [] names = omega arith
count_most (f ∷ fs) names = omega (arith, bit_one (is_one_of names f.name), count_most fs names)

same_count : (fs : List FragmentScope) (names more : List Bytes) → ((n : Bytes) → In names n → In more n) → count fs more ≤ count fs names → Each (λ f. In more f.name → In names f.name) fs
same_count [] names more f h = tt
same_count (g ∷ fs) names more f h =
    let one = bit_grows (is_one_of names g.name) (is_one_of more g.name) (f g.name) in
    let rest = count_grows fs names more f in
    (bit_back (is_one_of names g.name) (is_one_of more g.name) (omega (arith, h, one, rest)), same_count fs names more f (omega (arith, h, one, rest)))

none_closed : (fs : List FragmentScope) (names : List Bytes) → count fs names ≡ 0 → IsClosed fs (In names)
none_closed [] names h = tt
none_closed (g ∷ gs) names h = ((λ i. absurd (bit_none (is_one_of names g.name) (omega (arith, h)) i)), none_closed gs names (omega (arith, h)))

stays_closed : (fs : List FragmentScope) (names : List Bytes) → IsClosed fs (In names) → IsClosed fs (In (fold grown_by names fs))
stays_closed fs names c =
    let after = fold grown_by names fs in
    let back : (n : Bytes) → In after n → In names n = λ n i. each_in (In names) after n (within (In names) fs names c (in_self names)) i in
    each_weaker (λ f. In names f.name → Each (In names) (names_of f.spreads)) (λ f. In after f.name → Each (In after) (names_of f.spreads))
    (λ f h i. each_weaker (In names) (In after) (λ n j. keeps fs n names j) (names_of f.spreads) (h (back f.name i))) fs c

now_closed : (fs : List FragmentScope) (names : List Bytes) → count fs (fold grown_by names fs) ≤ count fs names → IsClosed fs (In (fold grown_by names fs))
now_closed fs names h =
    let after = fold grown_by names fs in
    each_both (λ f. In after f.name → In names f.name) (λ f. In names f.name → Each (In after) (names_of f.spreads)) (λ f. In after f.name → Each (In after) (names_of f.spreads))
    (λ f a b i. b (a i)) fs (same_count fs names after (λ n i. keeps fs n names i) h) (takes fs names)

start : (fs : List FragmentScope) (names : List Bytes) → IsClosed fs (In names) ⊎ (0 < count fs names)
start fs names = elim (cases_lt 0 (count fs names)) [ inl h ↦ inr h | inr h ↦ inl (none_closed fs names (omega (arith, h))) ]

goes_on : (fs : List FragmentScope) (names : List Bytes) (k : ℕ) → IsClosed fs (In names) ⊎ (k < count fs names) → IsClosed fs (In (fold grown_by names fs)) ⊎ (suc k < count fs (fold grown_by names fs))
goes_on fs names k (inl c) = inl (stays_closed fs names c)
goes_on fs names k (inr h) = elim (cases_lt (count fs names) (count fs (fold grown_by names fs))) [ inl e ↦ inr (omega (arith, h, e)) | inr e ↦ inl (now_closed fs names e) ]

closed_or : (fs : List FragmentScope) (names : List Bytes) (k : ℕ) → IsClosed fs (In (rounds k fs names)) ⊎ (k < count fs (rounds k fs names))
closed_or fs names zero = start fs names
closed_or fs names (suc k) = goes_on fs (rounds k fs names) k (closed_or fs names k)

closed : (fs : List FragmentScope) (names : List Bytes) → IsClosed fs (In (rounds (length fs) fs names))
closed fs names =
    elim (closed_or fs names (length fs)) [ inl c ↦ c | inr h ↦ absurd (omega (arith, h, count_most fs (rounds (length fs) fs names))) ]

-- ---- the least set

-- a closed set that has what is spread has what is reached
pub reached_within : (Q : Bytes → Type 0) (fs : List FragmentScope) (from : List Spread) → Each Q (names_of from) → IsClosed fs Q → (name : Bytes) → IsReached fs from name → Q name
reached_within Q fs from h c name (at_once n there) = each_at Q (names_of from) n h there
reached_within Q fs from h c name (through f n there r spread) =
    each_at Q (names_of f.spreads) n (each_at (λ g. Q g.name → Each Q (names_of g.spreads)) fs f c there (reached_within Q fs from h c f.name r)) spread

-- what is reached is closed
pub reached_closed : (fs : List FragmentScope) (from : List Spread) → IsClosed fs (IsReached fs from)
reached_closed fs from = each_from (λ f. IsReached fs from f.name → Each (IsReached fs from) (names_of f.spreads)) fs
    (λ f there r. each_from (IsReached fs from) (names_of f.spreads) (λ n spread. through f n there r spread))

pub start_reached : (fs : List FragmentScope) (from : List Spread) → Each (IsReached fs from) (names_of from)
start_reached fs from = each_from (IsReached fs from) (names_of from) (λ n there. at_once n there)

-- the names that are told are those that are reached
pub reached_is : (fs : List FragmentScope) (from : List Spread) (name : Bytes) → (is_one_of (reached fs from) name ≡ true) ↔ IsReached fs from name
unfolding reached
reached_is fs from name =
    let first = fold with_name [] (names_of from) in (
      (λ i. each_in (IsReached fs from) (rounds (length fs) fs first) name
          (within_rounds (IsReached fs from) fs (length fs) first (reached_closed fs from) (fold_each (IsReached fs from) (names_of from) [] (start_reached fs from) tt)) i),
      reached_within (In (rounds (length fs) fs first)) fs from
          (each_weaker (In (names_of from)) (In (rounds (length fs) fs first)) (λ n h. keeps_rounds fs (length fs) n first (in_right [] (names_of from) n h)) (names_of from) (in_self (names_of from)))
          (closed fs first) name,
    )
