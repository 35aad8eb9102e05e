-- Keys of two lists of fields, and what stands at them.
use Rattle.std.proofs.Common.{◌≡◌, refl, sym, ◌∙◌, ap, Bool, true, false, not, ◌||◌, List, [], ◌∷◌, ◌++◌, append-nil}
use Rattle.std.proofs.Common.{append_assoc, cond}
use Rattle.std.specs.List.{filter, list_any}
use Rattle.std.specs.Str.{bytes_eq}
use Rattle.std.proofs.Math.Bool.{or_assoc, or-false}
use Rattle.std.proofs.lemmas.Slice.Eq.{bytes_eq-Decides}
use Rattle.std.proofs.lemmas.List.Folds.{list_any-append}
use Rattle.graphql_names.specs.Names.{Bytes}
use Rattle.graphql_written_out.specs.Fields.{Found}
use Rattle.graphql_written_out.specs.Groups.{keys_after, keys, under}
use Rattle.graphql_semantics.proofs.GroupRepeats.{any-last}

abbrev pub has : Bytes → List Bytes → Bool
has key = list_any (bytes_eq key)

abbrev pub lacks : List Bytes → Bytes → Bool
lacks done k = not (has k done)

has-push : (k j : Bytes) (done : List Bytes) → has k (done ++ j ∷ []) ≡ (has k done || bytes_eq k j)
has-push k j done = list_any-append (bytes_eq k) done (j ∷ []) ∙ ap (λ q. has k done || q) (or-false (bytes_eq k j))

-- f: what is in d or in e
abbrev Covers : List Bytes → List Bytes → List Bytes → Type 0
Covers d e f = (k : Bytes) → has k f ≡ (has k d || has k e)

covers-push : (d e f : List Bytes) (j : Bytes) → Covers d e f → Covers d (e ++ j ∷ []) (f ++ j ∷ [])
covers-push d e f j c k =
    has-push k j f ∙ ap (λ q. q || bytes_eq k j) (c k) ∙ or_assoc (has k d) (has k e) (bytes_eq k j)
    ∙ ap (λ q. has k d || q) (sym (has-push k j e))

covers-known : (d e f : List Bytes) (j : Bytes) → has j d ≡ true → Covers d e f → Covers d (e ++ j ∷ []) f
covers-known d e f j h c k = cases (bytes_eq k j) refl
  where
    cases : (q : Bool) → bytes_eq k j ≡ q → has k f ≡ (has k d || has k (e ++ j ∷ []))
    cases true p = c k ∙ ap (λ q. q || has k e) in_d ∙ ap (λ q. q || has k (e ++ j ∷ [])) (sym in_d)
      where
        in_d : has k d ≡ true
        in_d = ap (λ z. has z d) ((bytes_eq-Decides k j).0 p) ∙ h
    cases false p = c k ∙ ap (λ q. has k d || q) (sym (has-push k j e ∙ ap (λ q. has k e || q) p ∙ or-false (has k e)))

-- no key stands twice
abbrev pub Once : List Bytes → Type 0
Once [] = Unit {0}
Once (k ∷ ks) = (has k ks ≡ false) × Once ks

-- the keys that are new after d
new-step : (k : Bytes) (d : List Bytes) (qf qd qe : Bool) (f0 f1 e0 e1 : List Bytes) → has k d ≡ qd → qf ≡ (qd || qe)
    → f0 ≡ filter (lacks d) e0 → (has k d ≡ true → f0 ≡ filter (lacks d) e1) → f1 ≡ filter (lacks d) e1
    → cond qf f0 (k ∷ f1) ≡ filter (lacks d) (cond qe e0 (k ∷ e1))
new-step k d qf true true f0 f1 e0 e1 h e a b c = ap (λ q. cond q f0 (k ∷ f1)) e ∙ a
new-step k d qf false true f0 f1 e0 e1 h e a b c = ap (λ q. cond q f0 (k ∷ f1)) e ∙ a
new-step k d qf true false f0 f1 e0 e1 h e a b c =
    ap (λ q. cond q f0 (k ∷ f1)) e ∙ b h ∙ ap (λ q. cond (not q) (k ∷ filter (lacks d) e1) (filter (lacks d) e1))
    (sym h)
new-step k d qf false false f0 f1 e0 e1 h e a b c =
    ap (λ q. cond q f0 (k ∷ f1)) e ∙ ap (λ zs. k ∷ zs) c
    ∙ ap (λ q. cond (not q) (k ∷ filter (lacks d) e1) (filter (lacks d) e1)) (sym h)

pub keys_after-new : {S : Type 0} (d e f : List Bytes) → Covers d e f → (xs : List (Found S))
    → keys_after f xs ≡ filter (lacks d) (keys_after e xs)
keys_after-new d e f c [] = refl
keys_after-new d e f c (x ∷ xs) =
    new-step x.head.key d (has x.head.key f) (has x.head.key d) (has x.head.key e) _ _ _ _ refl (c x.head.key)
    (keys_after-new d e f c xs)
    (λ h. keys_after-new d (e ++ x.head.key ∷ []) f (covers-known d e f x.head.key h c) xs)
    (keys_after-new d (e ++ x.head.key ∷ []) (f ++ x.head.key ∷ []) (covers-push d e f x.head.key c) xs)

keys_after-append : {S : Type 0} (done : List Bytes) (xs ys : List (Found S))
    → keys_after done (xs ++ ys) ≡ keys_after done xs ++ keys_after (done ++ keys_after done xs) ys
keys_after-append done [] ys = ap (λ d. keys_after d ys) (sym (append-nil done))
keys_after-append done (x ∷ xs) ys =
    let k = x.head.key in
    elim (has k done) as (λ q. cond q (keys_after done (xs ++ ys)) (k ∷ keys_after (done ++ k ∷ []) (xs ++ ys))
    ≡ cond q (keys_after done xs) (k ∷ keys_after (done ++ k ∷ []) xs) ++ keys_after
    (done ++ cond q (keys_after done xs) (k ∷ keys_after (done ++ k ∷ []) xs)) ys) [
      | true ↦ keys_after-append done xs ys
      | false ↦ ap (λ zs. k ∷ zs) (keys_after-append (done ++ k ∷ []) xs ys
          ∙ ap (λ d. keys_after (done ++ k ∷ []) xs ++ keys_after d ys)
          (append_assoc done (k ∷ []) (keys_after (done ++ k ∷ []) xs)))
    ]

-- new keys last
pub keys-append : {S : Type 0} (xs ys : List (Found S))
    → keys (xs ++ ys) ≡ keys xs ++ filter (lacks (keys xs)) (keys ys)
keys-append xs ys =
    keys_after-append [] xs ys ∙ ap (λ zs. keys xs ++ zs)
    (keys_after-new (keys xs) [] (keys xs) (λ k. sym (or-false (has k (keys xs)))) ys)

-- a key that is done does not come again
fresh-step : (k j : Bytes) (done : List Bytes) (q r a b : Bool) → has j done ≡ q → bytes_eq k j ≡ r → has k done ≡ true
    → a ≡ false → b ≡ false → cond q a (r || b) ≡ false
fresh-step k j done true r a b e f h ha hb = ha
fresh-step k j done false false a b e f h ha hb = hb
fresh-step k j done false true a b e f h ha hb =
    absurd (let bad : false ≡ true = sym e ∙ ap (λ z. has z done) (sym ((bytes_eq-Decides k j).0 f)) ∙ h in cc)

has-cond : (k j : Bytes) (q : Bool) (a b : List Bytes)
    → has k (cond q a (j ∷ b)) ≡ cond q (has k a) (bytes_eq k j || has k b)
has-cond k j true a b = refl
has-cond k j false a b = refl

fresh : {S : Type 0} (done : List Bytes) (xs : List (Found S)) (k : Bytes) → has k done ≡ true
    → has k (keys_after done xs) ≡ false
fresh done [] k h = refl
fresh done (x ∷ xs) k h =
    let j = x.head.key in
    has-cond k j (has j done) (keys_after done xs) (keys_after (done ++ j ∷ []) xs)
    ∙ fresh-step k j done (has j done) (bytes_eq k j) (has k (keys_after done xs))
    (has k (keys_after (done ++ j ∷ []) xs)) refl refl h
    (fresh done xs k h) (fresh (done ++ j ∷ []) xs k (has-push k j done ∙ ap (λ q. q || bytes_eq k j) h))

once-step : (j : Bytes) (q : Bool) (a b : List Bytes) → Once a → has j b ≡ false → Once b → Once (cond q a (j ∷ b))
once-step j true a b oa h ob = oa
once-step j false a b oa h ob = (h, ob)

pub keys_after-once : {S : Type 0} (done : List Bytes) (xs : List (Found S)) → Once (keys_after done xs)
keys_after-once done [] = tt
keys_after-once done (x ∷ xs) =
    let j = x.head.key in
    once-step j (has j done) (keys_after done xs) (keys_after (done ++ j ∷ []) xs) (keys_after-once done xs)
    (fresh (done ++ j ∷ []) xs j (any-last j done)) (keys_after-once (done ++ j ∷ []) xs)

abbrev pub some_in : {X : Type 0} → List X → Bool
some_in [] = false
some_in (x ∷ xs) = true

under-step : {S : Type 0} (q : Bool) (x : Found S) (xs : List (Found S))
    → some_in (cond q (x ∷ xs) xs) ≡ (q || some_in xs)
under-step true x xs = refl
under-step false x xs = refl

has-step : (k j : Bytes) (done : List Bytes) (q : Bool) (a b u : Bool) → has j done ≡ q
    → (has k done || a) ≡ (has k done || u) → ((has k done || bytes_eq k j) || b) ≡ ((has k done || bytes_eq k j) || u)
    → (has k done || cond q a (bytes_eq k j || b)) ≡ (has k done || (bytes_eq k j || u))
has-step k j done false a b u h e f =
    sym (or_assoc (has k done) (bytes_eq k j) b) ∙ f ∙ or_assoc (has k done) (bytes_eq k j) u
has-step k j done true a b u h e f = cases (bytes_eq k j) refl
  where
    cases : (q : Bool) → bytes_eq k j ≡ q → (has k done || a) ≡ (has k done || (q || u))
    cases false p = e
    cases true p = ap (λ z. z || a) known ∙ ap (λ z. z || true) (sym known)
      where
        known : has k done ≡ true
        known = ap (λ z. has z done) ((bytes_eq-Decides k j).0 p) ∙ h

pub has-keys_after : {S : Type 0} (k : Bytes) (done : List Bytes) (xs : List (Found S))
    → (has k done || has k (keys_after done xs)) ≡ (has k done || some_in (under xs k))
has-keys_after k done [] = refl
has-keys_after k done (x ∷ xs) =
    let j = x.head.key in
    ap (λ q. has k done || q) (has-cond k j (has j done) (keys_after done xs) (keys_after (done ++ j ∷ []) xs))
    ∙ has-step k j done (has j done) (has k (keys_after done xs)) (has k (keys_after (done ++ j ∷ []) xs))
    (some_in (under xs k)) refl
    (has-keys_after k done xs)
    (ap (λ q. q || has k (keys_after (done ++ j ∷ []) xs)) (sym (has-push k j done))
    ∙ has-keys_after k (done ++ j ∷ []) xs ∙ ap (λ q. q || some_in (under xs k)) (has-push k j done))
    ∙ ap (λ q. has k done || q) (sym (under-step (bytes_eq k j) x (under xs k)))

-- a key is there exactly where a field has it
pub has-keys : {S : Type 0} (k : Bytes) (xs : List (Found S)) → has k (keys xs) ≡ some_in (under xs k)
has-keys k xs = has-keys_after k [] xs

pub under-append : {S : Type 0} (xs ys : List (Found S)) (k : Bytes) → under (xs ++ ys) k ≡ under xs k ++ under ys k
under-append [] ys k = refl
under-append (x ∷ xs) ys k =
    elim (bytes_eq k x.head.key) as (λ q. cond q (x ∷ under (xs ++ ys) k) (under (xs ++ ys) k) ≡ cond q (x ∷ under xs k)
    (under xs k) ++ under ys k)
    [ true ↦ ap (λ zs. x ∷ zs) (under-append xs ys k) | false ↦ under-append xs ys k ]
