-- Names put into sets one after another, and fields that are not given.
use Rattle.std.proofs.Common.{◌≡◌, ◌||◌, ◌&&◌, ℕ, ◌+◌, ◌<◌, Bool, true, false, not, List, [], ◌∷◌, ◌++◌, Option, Some, if◌then◌else◌, MatchOption, MatchBool, Bor, IsPermutation, map, length, get_or, take, ap, sym, subst, refl, ◌∙◌}
use Rattle.std.specs.List.{list_any, list_all, find}
use Rattle.std.specs.Option.{is_some}
use Rattle.std.specs.Str.{bytes_eq}
use Rattle.std.proofs.lemmas.Bool.{false≢true}
use Rattle.std.proofs.lemmas.List.{take_more, map-append}
use Rattle.std.proofs.lemmas.List.Folds.{list_any-append}
use Rattle.std.proofs.lemmas.List.Sorted.{list_any-IsPermutation}
use Rattle.graphql_names.specs.Names.{Bytes, is_one_of}
use Rattle.graphql_names.proofs.NameLemmas.{same_bytes}

or_swapped : (a b : Bool) → (a || b) ≡ (b || (a || false))
or_swapped true true = refl
or_swapped true false = refl
or_swapped false true = refl
or_swapped false false = refl

-- a name put among others
put_name : (next : Bor Bytes) (old new : List (Bor Bytes)) (added : Bool) → added ≡ not (list_any (λ n. bytes_eq next.now n.now) old) → MatchBool added (IsPermutation (next ∷ old) new) (new ≡ old)
    → (q : Bytes) → list_any (λ n. bytes_eq q n.now) new ≡ (bytes_eq q next.now || list_any (λ n. bytes_eq q n.now) old)
put_name next old new true was puts q = sym (list_any-IsPermutation (λ n. bytes_eq q n.now) (next ∷ old) new puts)
put_name next old new false was puts q = ap (list_any (λ n. bytes_eq q n.now)) puts ∙ either (bytes_eq q next.now) refl
  where
    there : (b : Bool) → false ≡ not b → b ≡ true
    there true e = refl
    there false e = absurd (false≢true e)

    either : (b : Bool) → bytes_eq q next.now ≡ b → list_any (λ n. bytes_eq q n.now) old ≡ (b || list_any (λ n. bytes_eq q n.now) old)
    either true same = ap (λ name. list_any (λ n. bytes_eq name n.now) old) (same_bytes q next.now same) ∙ there (list_any (λ n. bytes_eq next.now n.now) old) was
    either false differs = refl

module _ {A : Type 0} (name_of : A → Bytes) where
  pub name_step : (xs : List A) (k : ℕ) (x : A) → k < length xs → x ≡ get_or xs k x → (next : Bor Bytes) → next.now ≡ name_of x
      → (old new : List (Bor Bytes)) (added : Bool) → added ≡ not (list_any (λ n. bytes_eq next.now n.now) old) → MatchBool added (IsPermutation (next ∷ old) new) (new ≡ old)
      → (q : Bytes) → list_any (λ n. bytes_eq q n.now) old ≡ is_one_of (map name_of (take k xs)) q → list_any (λ n. bytes_eq q n.now) new ≡ is_one_of (map name_of (take (k + 1) xs)) q
  name_step xs k x within is next named old new added was puts q before =
      put_name next old new added was puts q
      ∙ ap (λ b. bytes_eq q next.now || b) before
      ∙ or_swapped (bytes_eq q next.now) (is_one_of (map name_of (take k xs)) q)
      ∙ ap (λ name. is_one_of (map name_of (take k xs)) q || (bytes_eq q name || false)) named
      ∙ sym (ap (λ zs. is_one_of zs q) (ap (map name_of) (take_more xs k x within ∙ ap (λ z. take k xs ++ z ∷ []) (sym is)) ∙ map-append name_of (take k xs) (x ∷ []))
      ∙ list_any-append (bytes_eq q) (map name_of (take k xs)) (name_of x ∷ []))

-- ---- fields that are not given

all_same : {A : Type 0} (f h : A → Bool) → ((x : A) → f x ≡ h x) → (xs : List A) → list_all f xs ≡ list_all h xs
all_same f h e [] = refl
all_same f h e (x ∷ xs) = ap (λ b. b && list_all f xs) (e x) ∙ ap (λ b. h x && b) (all_same f h e xs)

pub unsettled_same : {A B : Type 0} (f h : A → Bool) → ((x : A) → f x ≡ h x) → (xs : List A) (o : Option B) → MatchOption o (list_all f xs ≡ true) (λ _. list_all f xs ≡ false)
    → MatchOption o (list_all h xs ≡ true) (λ _. list_all h xs ≡ false)
unsettled_same f h e xs o = subst (λ b. MatchOption o (b ≡ true) (λ _. b ≡ false)) (all_same f h e xs)

-- what is looked for is found where it stands
pub found_where_it_stands : {A : Type 0} (test : A → Bool) (xs : List A) → is_some (find test xs) ≡ list_any test xs
found_where_it_stands test [] = refl
found_where_it_stands {A} test (x ∷ xs) = either (test x) (found_where_it_stands test xs)
  where
    either : (b : Bool) → is_some (find test xs) ≡ list_any test xs → is_some (if b then Some x else find test xs) ≡ (b || list_any test xs)
    either true found = refl
    either false found = found
