-- Names at which something stands, looked for in one item after another.
use Rattle.std.proofs.Common.{◌≡◌, ℕ, ◌+◌, ◌<◌, ◌≤◌, Bool, true, false, ◌||◌, ◌&&◌, List, [], ◌∷◌, ◌++◌, Option, Bor, map, length, get_or, take, refl, ap, sym, ◌∙◌}
use Rattle.std.specs.List.{list_any, flat_map}
use Rattle.std.specs.Str.{bytes_eq}
use Rattle.std.proofs.lemmas.List.{take_all}
use Rattle.std.proofs.lemmas.List.Concat.{flat_map-cons}
use Rattle.std.proofs.lemmas.List.Folds.{list_any-append, list_any_more, list_any_at}
use Rattle.graphql_names.specs.Names.{Bytes, is_one_of}
use Rattle.graphql_names.specs.Names.{Finds}
use Rattle.graphql_names.proofs.NameLemmas.{same_bytes, eq_itself, finds_as}

-- a loop past i of the items, of which the next has no such name either
pub none-turn : {A : Type 0} (stands : A → Bytes → Bool) (items : List A) (i : ℕ) (x : A) → i < length items → x ≡ get_or items i x
    → ((name : Bytes) → list_any (λ y. stands y name) (take i items) ≡ false) → ((name : Bytes) → stands x name ≡ false)
    → (name : Bytes) → list_any (λ y. stands y name) (take (i + 1) items) ≡ false
none-turn stands items i x within is before here name =
    list_any_more (λ y. stands y name) items i x within ∙ ap (λ b. b || stands (get_or items i x) name) (before name) ∙ ap (λ y. stands y name) (sym is) ∙ here name

-- a loop past all of the items
pub none_in_all : {A : Type 0} (stands : A → Bytes → Bool) (items : List A) (i : ℕ) → length items ≤ i
    → ((name : Bytes) → list_any (λ y. stands y name) (take i items) ≡ false) → (name : Bytes) → list_any (λ y. stands y name) items ≡ false
none_in_all stands items i past before name = sym (ap (list_any (λ y. stands y name)) (take_all i items past)) ∙ before name

pub list_any-map : {X Y : Type 0} (p : Y → Bool) (f : X → Y) (xs : List X) → list_any p (map f xs) ≡ list_any (λ x. p (f x)) xs
list_any-map p f [] = refl
list_any-map p f (x ∷ xs) = ap (λ b. p (f x) || b) (list_any-map p f xs)

shared : (a b c : Bool) → ((a || b) && c) ≡ ((a && c) || (b && c))
shared true true true = refl
shared true true false = refl
shared true false true = refl
shared true false false = refl
shared false b c = refl

-- the names among these that are bad
module _ (bad : Bytes → Bool) where
  abbrev among : List Bytes → Bytes → Bool
  among names name = is_one_of names name && bad name

  pub among-append : (xs ys : List Bytes) (name : Bytes) → among (xs ++ ys) name ≡ (among xs name || among ys name)
  among-append xs ys name = ap (λ b. b && bad name) (list_any-append (bytes_eq name) xs ys) ∙ shared (is_one_of xs name) (is_one_of ys name) (bad name)

  pub among-flat_map : {A : Type 0} (f : A → List Bytes) (xs : List A) (name : Bytes) → among (flat_map f xs) name ≡ list_any (λ x. among (f x) name) xs
  among-flat_map f [] name = refl
  among-flat_map f (x ∷ xs) name = ap (λ ns. among ns name) (flat_map-cons f x xs) ∙ among-append (f x) (flat_map f xs) name ∙ ap (λ b. among (f x) name || b) (among-flat_map f xs name)

  pub among-map : {A : Type 0} (f : A → Bytes) (xs : List A) (name : Bytes) → among (map f xs) name ≡ list_any (λ x. among (f x ∷ []) name) xs
  among-map f [] name = refl
  among-map f (x ∷ xs) name = among-append (f x ∷ []) (map f xs) name ∙ ap (λ b. among (f x ∷ []) name || b) (among-map f xs name)

  -- whether one of the items has a name
  pub among-any : {A : Type 0} (f : A → List Bytes) (xs : List A) (name : Bytes) → (list_any (λ x. is_one_of (f x) name) xs && bad name) ≡ list_any (λ x. among (f x) name) xs
  among-any f [] name = refl
  among-any f (x ∷ xs) name = shared (is_one_of (f x) name) (list_any (λ y. is_one_of (f y) name) xs) (bad name) ∙ ap (λ b. among (f x) name || b) (among-any f xs name)

  pub good-one : (n name : Bytes) → bad n ≡ false → among (n ∷ []) name ≡ false
  good-one n name good = either (bytes_eq name n) refl
    where
      either : (b : Bool) → bytes_eq name n ≡ b → ((b || false) && bad name) ≡ false
      either true is = ap bad (same_bytes name n is) ∙ good
      either false is = refl

  pub bad-one : (n : Bytes) → bad n ≡ true → among (n ∷ []) n ≡ true
  bad-one n is = rw (eq_itself n) is

  -- names behind others, none of which is bad
  pub none_before : (xs ys : List Bytes) → ((name : Bytes) → among xs name ≡ false) → ((name : Bytes) → among ys name ≡ false) → (name : Bytes) → among (xs ++ ys) name ≡ false
  none_before xs ys none nothing name = among-append xs ys name ∙ ap (λ b. b || among ys name) (none name) ∙ nothing name

  pub finds_behind : (xs ys : List Bytes) (found : Option (Bor Bytes)) → ((name : Bytes) → among xs name ≡ false) → Finds (among ys) found → Finds (among (xs ++ ys)) found
  finds_behind xs ys found none finds =
      finds_as (among ys) (among (xs ++ ys)) found (λ name. sym (among-append xs ys name ∙ ap (λ b. b || among ys name) (none name))) finds

  -- a loop past i of the items, of which the next has one name each
  module _ {A : Type 0} (f : A → Bytes) (items : List A) (i : ℕ) (x : A) (within : i < length items) (is : x ≡ get_or items i x) (name : Bytes) (named : name ≡ f x) where
    pub bad-item : bad name ≡ true → among (map f items) name ≡ true
    bad-item here =
        among-map f items name ∙ list_any_at (λ y. among (f y ∷ []) name) items i x within (sym (ap (λ n. among (n ∷ []) name) (named ∙ ap f is)) ∙ bad-one name here)

    pub good-turn : bad name ≡ false → ((q : Bytes) → among (map f (take i items)) q ≡ false) → (q : Bytes) → among (map f (take (i + 1) items)) q ≡ false
    good-turn here before q =
        among-map f (take (i + 1) items) q
        ∙ none-turn (λ y q. among (f y ∷ []) q) items i x within is (λ q. sym (among-map f (take i items) q) ∙ before q)
        (λ q. sym (ap (λ n. among (n ∷ []) q) named) ∙ good-one name q here) q

  -- a loop past i of the items, of which the next has names of its own
  module _ {A : Type 0} (f : A → List Bytes) (items : List A) (i : ℕ) (x : A) (within : i < length items) (is : x ≡ get_or items i x) where
    pub bad-names : (name : Bytes) → among (f x) name ≡ true → among (flat_map f items) name ≡ true
    bad-names name here =
        among-flat_map f items name ∙ list_any_at (λ y. among (f y) name) items i x within (sym (ap (λ y. among (f y) name) is) ∙ here)

    pub good-names : ((q : Bytes) → among (flat_map f (take i items)) q ≡ false) → ((q : Bytes) → among (f x) q ≡ false) → (q : Bytes) → among (flat_map f (take (i + 1) items)) q ≡ false
    good-names before here q =
        among-flat_map f (take (i + 1) items) q
        ∙ none-turn (λ y q. among (f y) q) items i x within is (λ q. sym (among-flat_map f (take i items) q) ∙ before q) here q

    -- the same of what one of the items has
    pub bad-any : (name : Bytes) → among (f x) name ≡ true → (list_any (λ y. is_one_of (f y) name) items && bad name) ≡ true
    bad-any name here =
        among-any f items name ∙ list_any_at (λ y. among (f y) name) items i x within (sym (ap (λ y. among (f y) name) is) ∙ here)

    pub good-any : ((q : Bytes) → (list_any (λ y. is_one_of (f y) q) (take i items) && bad q) ≡ false) → ((q : Bytes) → among (f x) q ≡ false)
        → (q : Bytes) → (list_any (λ y. is_one_of (f y) q) (take (i + 1) items) && bad q) ≡ false
    good-any before here q =
        among-any f (take (i + 1) items) q
        ∙ none-turn (λ y q. among (f y) q) items i x within is (λ q. sym (among-any f (take i items) q) ∙ before q) here q
