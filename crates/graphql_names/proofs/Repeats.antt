-- Names that stand twice, looked for in one item after another.
use Rattle.std.proofs.Common.{◌≡◌, ℕ, ◌+◌, ◌<◌, ◌≤◌, Bool, true, false, not, cond, ◌||◌, List, [], ◌∷◌, ◌++◌, Option, None, map, length, get_or, take, drop, MatchBool, Bor, IsPermutation, count_by, ltb, lt-ltb, le-ltb, ltb-true, add-zero, refl, ap, subst, sym, ◌∙◌, arith}
use Rattle.std.specs.List.{list_any}
use Rattle.std.specs.Str.{bytes_eq}
use Rattle.std.proofs.lemmas.List.{take_more, take-append-drop, map-append}
use Rattle.std.proofs.lemmas.List.Folds.{list_any-append}
use Rattle.std.proofs.lemmas.List.Sorted.{list_any-IsPermutation}
use Rattle.std.proofs.lemmas.List.Sums.{sum_by-cons, sum_by-append, sum_by_push}
use Rattle.graphql_names.specs.Names.{Bytes, is_one_of, stands_twice, Finds}
use Rattle.graphql_names.proofs.NameLemmas.{same_bytes, eq_itself, none_found}

abbrev times : Bytes → List Bytes → ℕ
times name names = count_by (bytes_eq name) names

never : (name : Bytes) (names : List Bytes) → is_one_of names name ≡ false → times name names ≡ 0
never name [] absent = refl
never name (n ∷ names) absent = sum_by-cons (λ m. cond (bytes_eq name m) 1 0) n names ∙ either (bytes_eq name n) absent (never name names)
  where
    either : (b : Bool) → (b || is_one_of names name) ≡ false → (is_one_of names name ≡ false → times name names ≡ 0) → cond b 1 0 + times name names ≡ 0
    either true absent rest = absurd (cc)
    either false absent rest = omega (arith, rest absent)

once : (name : Bytes) (names : List Bytes) → is_one_of names name ≡ true → 1 ≤ times name names
once name [] present = absurd (cc)
once name (n ∷ names) present = rw (sum_by-cons (λ m. cond (bytes_eq name m) 1 0) n names) (either (bytes_eq name n) present (once name names))
  where
    either : (b : Bool) → (b || is_one_of names name) ≡ true → (is_one_of names name ≡ true → 1 ≤ times name names) → 1 ≤ cond b 1 0 + times name names
    either true present rest = omega arith
    either false present rest = omega (arith, rest present)

-- a name behind names among which it stands
pub again : (names : List Bytes) (name : Bytes) → is_one_of names name ≡ true → stands_twice (names ++ name ∷ []) name ≡ true
again names name present =
    let here : times name (names ++ name ∷ []) ≡ times name names + 1 =
    sum_by_push (λ m. cond (bytes_eq name m) 1 0) names name ∙ ap (λ b. times name names + cond b 1 0) (eq_itself name) in
    lt-ltb 1 _ (omega (arith, here, once name names present))

-- a name behind names among which it does not stand, where none stands twice
pub first : (names : List Bytes) (name q : Bytes) → is_one_of names name ≡ false → stands_twice names q ≡ false → stands_twice (names ++ name ∷ []) q ≡ false
first names name q absent once_each = ap (λ n. ltb 1 n) (sum_by_push (λ m. cond (bytes_eq q m) 1 0) names name) ∙ either (bytes_eq q name) refl
  where
    either : (b : Bool) → bytes_eq q name ≡ b → ltb 1 (times q names + cond b 1 0) ≡ false
    either true is = let none : times q names ≡ 0 = ap (λ n. times n names) (same_bytes q name is) ∙ never name names absent in le-ltb 1 _ (omega (arith, none))
    either false is = rw (add-zero) once_each

-- what stands twice among the first does so among all
pub kept : (xs ys : List Bytes) (name : Bytes) → stands_twice xs name ≡ true → stands_twice (xs ++ ys) name ≡ true
kept xs ys name twice =
    let more = sum_by-append (λ m. cond (bytes_eq name m) 1 0) xs ys in
    let two : 1 < times name xs = ltb-true 1 _ twice in
    lt-ltb 1 _ (omega (arith, more, two))

-- a loop past i of the items, whose set has the names of those and is given that of the next one
module _ {A : Type 0} (name_of : A → Bytes) (items : List A) (i : ℕ) (d : A) (within : i < length items) (next : Bor Bytes) (is : next.now ≡ name_of (get_or items i d))
    (old : List (Bor Bytes)) (added : Bool) (seen : (q : Bytes) → list_any (λ n. bytes_eq q n.now) old ≡ is_one_of (map name_of (take i items)) q) where
  abbrev so_far : List Bytes
  so_far = map name_of (take i items)

  one_more : map name_of (take (i + 1) items) ≡ so_far ++ next.now ∷ []
  one_more = ap (map name_of) (take_more items i d within) ∙ map-append name_of (take i items) (get_or items i d ∷ []) ∙ ap (λ n. so_far ++ n ∷ []) (sym is)

  stood : added ≡ not (list_any (λ n. bytes_eq next.now n.now) old) → is_one_of so_far next.now ≡ not added
  stood put = sym (seen next.now) ∙ either (list_any (λ n. bytes_eq next.now n.now) old) ∙ ap not (sym put)
    where
      either : (b : Bool) → b ≡ not (not b)
      either true = refl
      either false = refl

  pub twice-found : added ≡ not (list_any (λ n. bytes_eq next.now n.now) old) → added ≡ false → stands_twice (map name_of items) next.now ≡ true
  twice-found put not_added =
      let two = again so_far next.now (stood put ∙ ap not not_added) in
      let whole : map name_of (take (i + 1) items) ++ map name_of (drop (i + 1) items) ≡ map name_of items =
      sym (map-append name_of (take (i + 1) items) (drop (i + 1) items)) ∙ ap (map name_of) (take-append-drop (i + 1) items) in
      sym (ap (λ ns. stands_twice ns next.now) whole) ∙ ap (λ ns. stands_twice (ns ++ map name_of (drop (i + 1) items)) next.now) one_more ∙ kept (so_far ++ next.now ∷ []) (map name_of (drop (i + 1) items)) next.now two

  pub once-turn : added ≡ not (list_any (λ n. bytes_eq next.now n.now) old) → added ≡ true → ((q : Bytes) → stands_twice so_far q ≡ false)
      → (q : Bytes) → stands_twice (map name_of (take (i + 1) items)) q ≡ false
  once-turn put was_added once_each q = ap (λ ns. stands_twice ns q) one_more ∙ first so_far next.now q (stood put ∙ ap not was_added) (once_each q)

  pub seen-turn : (new : List (Bor Bytes)) → MatchBool added (IsPermutation (next ∷ old) new) (new ≡ old) → added ≡ true
      → (q : Bytes) → list_any (λ n. bytes_eq q n.now) new ≡ is_one_of (map name_of (take (i + 1) items)) q
  seen-turn new put was_added q =
      sym (list_any-IsPermutation (λ n. bytes_eq q n.now) (next ∷ old) new (subst (λ b. MatchBool b (IsPermutation (next ∷ old) new) (new ≡ old)) was_added put))
      ∙ ap (λ b. bytes_eq q next.now || b) (seen q)
      ∙ swapped (bytes_eq q next.now) (is_one_of so_far q)
      ∙ sym (ap (λ ns. is_one_of ns q) one_more ∙ list_any-append (bytes_eq q) so_far (next.now ∷ []))
    where
      swapped : (a b : Bool) → (a || b) ≡ (b || (a || false))
      swapped true true = refl
      swapped true false = refl
      swapped false true = refl
      swapped false false = refl

-- names among which none was found to stand twice
pub none_twice : {A : Type 0} (name_of : A → Bytes) (looked_at items : List A) → looked_at ≡ items → (found : Option (Bor Bytes)) → Finds (stands_twice (map name_of looked_at)) found → found ≡ None
    → (name : Bytes) → stands_twice (map name_of items) name ≡ false
none_twice name_of looked_at items same found finds is name =
    ap (λ xs. stands_twice (map name_of xs) name) (sym same) ∙ none_found (stands_twice (map name_of looked_at)) found finds is name
