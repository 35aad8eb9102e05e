-- Names put into a set, one after another.
use Rattle.std.proofs.Common.{◌≡◌, ◌||◌, ℕ, ◌+◌, ◌<◌, Bool, true, false, not, List, [], ◌∷◌, MatchBool, Bor, IsPermutation, map, length, get_or, take, refl, sym, ap, ◌∙◌}
use Rattle.std.specs.List.{list_any}
use Rattle.std.specs.Str.{bytes_eq}
use Rattle.std.proofs.Math.Bool.{or-false}
use Rattle.std.proofs.lemmas.Bool.{false≢true}
use Rattle.std.proofs.lemmas.List.{take_more, map-append}
use Rattle.std.proofs.lemmas.List.Folds.{list_any-append}
use Rattle.std.proofs.lemmas.List.Sorted.{list_any-IsPermutation}
use Rattle.graphql_names.specs.Names.{Bytes, is_one_of}
use Rattle.graphql_names.proofs.NameLemmas.{same_bytes}

or_swapped : (a b : Bool) → (a || b) ≡ (b || a)
or_swapped true true = refl
or_swapped true false = refl
or_swapped false true = refl
or_swapped false false = refl

-- a name put among others
pub put_name : (next : Bor Bytes) (old new : List (Bor Bytes)) (added : Bool) → added ≡ not (list_any (λ n. bytes_eq next.now n.now) old) → MatchBool added (IsPermutation (next ∷ old) new) (new ≡ old)
    → (q : Bytes) → list_any (λ n. bytes_eq q n.now) new ≡ (list_any (λ n. bytes_eq q n.now) old || bytes_eq q next.now)
put_name next old new true was puts q = sym (list_any-IsPermutation (λ n. bytes_eq q n.now) (next ∷ old) new puts) ∙ or_swapped (bytes_eq q next.now) (list_any (λ n. bytes_eq q n.now) old)
put_name next old new false was puts q = ap (list_any (λ n. bytes_eq q n.now)) puts ∙ either (list_any (λ n. bytes_eq q n.now) old) (bytes_eq q next.now) (λ same. ap (λ name. list_any (λ n. bytes_eq name n.now) old) (same_bytes q next.now same) ∙ there (list_any (λ n. bytes_eq next.now n.now) old) was)
  where
    there : (b : Bool) → false ≡ not b → b ≡ true
    there true e = refl
    there false e = absurd (false≢true e)

    either : (a b : Bool) → (b ≡ true → a ≡ true) → a ≡ (a || b)
    either true b h = refl
    either false true h = h refl
    either false false h = refl

-- with the name of one item more
pub names_turn : {A B : Type 0} (view : A → B) (name_of : B → Bytes) (xs : List A) (i : ℕ) (d : A) → i < length xs → (q : Bytes) (old new : Bool) → old ≡ is_one_of (map name_of (map view (take i xs))) q
    → new ≡ (old || bytes_eq q (name_of (view (get_or xs i d)))) → new ≡ is_one_of (map name_of (map view (take (i + 1) xs))) q
names_turn view name_of xs i d within q old new before now =
    now ∙ ap (λ b. b || bytes_eq q (name_of (view (get_or xs i d)))) before
    ∙ ap (λ b. is_one_of (map name_of (map view (take i xs))) q || b) (sym (or-false (bytes_eq q (name_of (view (get_or xs i d))))))
    ∙ sym (list_any-append (bytes_eq q) (map name_of (map view (take i xs))) (name_of (view (get_or xs i d)) ∷ []))
    ∙ ap (λ ns. is_one_of ns q)
    (sym (ap (map name_of) (ap (map view) (take_more xs i d within) ∙ map-append view (take i xs) (get_or xs i d ∷ [])) ∙ map-append name_of (map view (take i xs)) (view (get_or xs i d) ∷ [])))
