-- Laws of names, and of what is found at them.
use Rattle.std.proofs.Common.{◌≡◌, ℕ, ◌≤◌, length, take, Result, Ok, IfOk, Bor, Bool, true, false, cond, List, map, Some, None, Less, Err, Option, is_eq, IsPermutation, nat_cmp, ltb, sym, refl, ap, ◌∙◌, subst}
use Rattle.std.specs.Str.{bytes_eq}
use Rattle.std.specs.Cmp.{unsigned_ties}
use Rattle.std.specs.Cmp.Lexicographic.{slice_cmp, lists_ties}
use Rattle.std.proofs.lemmas.Cmp.{nat_list_eq_equiv}
use Rattle.std.proofs.lemmas.List.{take_all}
use Rattle.std.proofs.lemmas.List.Sorted.{sum_by-IsPermutation, IsPermutation-map}
use Rattle.std.proofs.lemmas.Slice.Eq.{bytes_eq-Decides}
use Rattle.graphql_names.specs.Names.{Bytes, stands_twice, Finds}

pub same_bytes : (a b : Bytes) → bytes_eq a b ≡ true → a ≡ b
same_bytes a b = (bytes_eq-Decides a b).0

pub eq_itself : (a : Bytes) → bytes_eq a a ≡ true
eq_itself a = (bytes_eq-Decides a a).1 refl

-- names of one length whose bytes are the same up to there are one
pub same_whole : (a b bytes others : Bytes) → bytes ≡ a → others ≡ b → (n : ℕ) → length bytes ≤ n → length bytes ≡ length others → take n bytes ≡ take n others → true ≡ bytes_eq a b
same_whole a b bytes others is_a is_b n within lengths same =
    let other_within : length others ≤ n = subst (λ l. l ≤ n) lengths within in
    let one : bytes ≡ others = sym (take_all n bytes within) ∙ same ∙ take_all n others other_within in
    sym ((bytes_eq-Decides a b).1 (sym is_a ∙ one ∙ is_b))

pub eq_either_way : (a b : Bytes) → bytes_eq a b ≡ bytes_eq b a
eq_either_way a b = nat_list_eq_equiv.symm a b

-- names of which the one is below the other differ
pub differ_below : (a b : Bytes) → slice_cmp nat_cmp a b ≡ Less → bytes_eq a b ≡ false
differ_below a b less = lists_ties nat_cmp unsigned_ties a b ∙ ap is_eq less

-- names that change places stand as often
pub stands_twice-IsPermutation : (names others : List Bytes) (name : Bytes) → IsPermutation names others → stands_twice others name ≡ stands_twice names name
stands_twice-IsPermutation names others name moved = ap (λ n. ltb 1 n) (sum_by-IsPermutation (λ n. cond (bytes_eq name n) 1 0) names others moved)

-- and so do the names of items
pub stands_twice-moved : {A : Type 0} (name_of : A → Bytes) (items others : List A) (name : Bytes) → IsPermutation items others → stands_twice (map name_of others) name ≡ stands_twice (map name_of items) name
stands_twice-moved name_of items others name moved =
    stands_twice-IsPermutation (map name_of items) (map name_of others) name (IsPermutation-map name_of items others moved)

-- what was looked for and not found stands nowhere
pub none_found : (stands : Bytes → Bool) (found : Option (Bor Bytes)) → Finds stands found → found ≡ None → (name : Bytes) → stands name ≡ false
none_found stands found finds is = let none : Finds stands None = subst (Finds stands) is finds in none

pub some_found : (stands : Bytes → Bool) (found : Option (Bor Bytes)) (name : Bor Bytes) → Finds stands found → found ≡ Some name → stands name.now ≡ true
some_found stands found name finds is = let some : Finds stands (Some name) = subst (Finds stands) is finds in some

-- what is found of one thing is found of another that stands at the same names
pub finds_as : (stands others : Bytes → Bool) (found : Option (Bor Bytes)) → ((name : Bytes) → stands name ≡ others name) → Finds stands found → Finds others found
finds_as stands others None same finds = λ name. sym (same name) ∙ finds name
finds_as stands others (Some name) same finds = sym (same name.now) ∙ finds

pub ok_finds_as : {E : Type 0} (stands others : Bytes → Bool) (found : Result (Option (Bor Bytes)) E) → ((name : Bytes) → stands name ≡ others name) → IfOk found (Finds stands) → IfOk found (Finds others)
ok_finds_as stands others (Ok found) same finds = finds_as stands others found same finds
ok_finds_as stands others (Err e) same finds = tt
