-- Keys of groups are distinct, and each group has a field.
use Rattle.std.proofs.Common.{◌≡◌, refl, sym, ◌∙◌, ap, subst, Bool, true, false, List, [], ◌∷◌, ◌++◌, map, append-nil, append_assoc, cond}
use Rattle.std.specs.List.{All, IsDistinct, filter, list_any}
use Rattle.std.specs.Str.{bytes_eq}
use Rattle.std.specs.Cmp.Lexicographic.{nat_list_eq_equiv}
use Rattle.std.proofs.lemmas.List.Elements.{All-nil, All-cons, filter-append}
use Rattle.std.proofs.lemmas.Map.Keys.{IsDistinct-push}
use Rattle.graphql_names.specs.Names.{Bytes}
use Rattle.graphql_written_out.specs.Fields.{Found}
use Rattle.graphql_written_out.specs.Groups.{keys, keys_after, under, groups}
use Rattle.graphql_semantics.specs.Evaluation.{Group}

nothing-distinct : IsDistinct bytes_eq []
unfolding IsDistinct
nothing-distinct = tt

module _ {S : Type 0} where
  distinct-after : (done : List Bytes) (xs : List (Found S)) → IsDistinct bytes_eq done → IsDistinct bytes_eq (done ++ keys_after done xs)
  distinct-after done [] d = subst (IsDistinct bytes_eq) (sym (append-nil done)) d
  distinct-after done (x ∷ xs) d =
      let cases : (q : Bool) → list_any (bytes_eq x.head.key) done ≡ q → IsDistinct bytes_eq (done ++ cond q (keys_after done xs) (x.head.key ∷ keys_after (done ++ x.head.key ∷ []) xs)) =
      elim [
        | true ↦ (λ t. distinct-after done xs d)
        | false ↦ (λ t. subst (IsDistinct bytes_eq) (append_assoc done (x.head.key ∷ []) (keys_after (done ++ x.head.key ∷ []) xs))
            (distinct-after (done ++ x.head.key ∷ []) xs (IsDistinct-push nat_list_eq_equiv done x.head.key d t)))
      ]
      in cases (list_any (bytes_eq x.head.key) done) refl

  keys-of_groups : (xs : List (Found S)) (ks : List Bytes) → map (λ (g : Group S). g.0) (map (λ key. (key, under xs key)) ks) ≡ ks
  keys-of_groups xs [] = refl
  keys-of_groups xs (k ∷ ks) = ap (λ rest. k ∷ rest) (keys-of_groups xs ks)

  pub distinct-groups : (xs : List (Found S)) → IsDistinct bytes_eq (map (λ (g : Group S). g.0) (groups xs))
  distinct-groups xs = subst (IsDistinct bytes_eq) (sym (keys-of_groups xs (keys xs))) (distinct-after [] xs nothing-distinct)

  abbrev pub HasField : List (Found S) → Bytes → Type 0
  HasField xs key = under xs key ≡ [] → ⊥

  has-more : (ys : List (Found S)) (x : Found S) (zs : List (Found S)) → ys ++ x ∷ zs ≡ [] → ⊥
  has-more [] x zs p = cc
  has-more (y ∷ ys) x zs p = cc

  has-own : (done : List (Found S)) (x : Found S) (xs : List (Found S)) → HasField (done ++ x ∷ xs) x.head.key
  has-own done x xs p =
      let own : bytes_eq x.head.key x.head.key ≡ true = nat_list_eq_equiv.refl x.head.key in
      let parts : under (done ++ x ∷ xs) x.head.key ≡ under done x.head.key ++ under (x ∷ xs) x.head.key = filter-append (λ (y : Found S). bytes_eq x.head.key y.head.key) done (x ∷ xs) in
      has-more (under done x.head.key) x (under xs x.head.key) (ap (λ q. under done x.head.key ++ cond q (x ∷ under xs x.head.key) (under xs x.head.key)) (sym own) ∙ sym parts ∙ p)

  have-fields : (done : List Bytes) (before xs : List (Found S)) → All (HasField (before ++ xs)) (keys_after done xs)
  have-fields done before [] = All-nil (HasField (before ++ []))
  have-fields done before (x ∷ xs) =
      let same : (before ++ x ∷ []) ++ xs ≡ before ++ x ∷ xs = append_assoc before (x ∷ []) xs in
      let after : (names : List Bytes) → All (HasField (before ++ x ∷ xs)) (keys_after names xs) = λ names. subst (λ ys. All (HasField ys) (keys_after names xs)) same (have-fields names (before ++ x ∷ []) xs) in
      elim (list_any (bytes_eq x.head.key) done) as (λ q. All (HasField (before ++ x ∷ xs)) (cond q (keys_after done xs) (x.head.key ∷ keys_after (done ++ x.head.key ∷ []) xs)))
      [ true ↦ after done | false ↦ All-cons (HasField (before ++ x ∷ xs)) x.head.key (keys_after (done ++ x.head.key ∷ []) xs) (has-own before x xs) (after (done ++ x.head.key ∷ [])) ]

  -- each key of some fields has one of them
  pub keys-have_fields : (xs : List (Found S)) → All (HasField xs) (keys xs)
  keys-have_fields xs = have-fields [] [] xs
