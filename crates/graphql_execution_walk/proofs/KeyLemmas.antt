-- Each field of a group has the group's key.
use Rattle.std.proofs.Common.{◌≡◌, refl, sym, ap, subst, ℕ, Bool, true, false, List, [], ◌∷◌, map, Some, slice_get, cond}
use Rattle.std.specs.List.{All, Contains}
use Rattle.std.specs.Str.{bytes_eq}
use Rattle.std.proofs.lemmas.List.Elements.{All-nil, All-cons, All-head, All-tail}
use Rattle.std.proofs.lemmas.Option.{get_or_from_slice_get, slice_get_within}
use Rattle.std.proofs.lemmas.Slice.Eq.{bytes_eq-Decides}
use Rattle.graphql_names.specs.Names.{Bytes}
use Rattle.graphql_tree.specs.declared.document.Fragment.{Fragment}
use Rattle.graphql_written_out.specs.Fields.{Found}
use Rattle.graphql_written_out.specs.Groups.{groups, keys, under}
use Rattle.graphql_collect.specs.Grouped.{Group, Lent, all_found, group_found, key_at}
use Rattle.graphql_execution_walk.specs.Sets.{HasKey}

pub all-at : {A : Type 0} (P : A → Type 0) (xs : List A) (i : ℕ) (x : A) → All P xs → slice_get xs i ≡ Some x → P x
all-at P xs i x h at = subst P (get_or_from_slice_get xs i x x at) (h i x (slice_get_within xs i x at))

pub contains-at : {A : Type 0} (xs : List A) (i : ℕ) (x : A) → slice_get xs i ≡ Some x → Contains xs x
contains-at xs i x at = (i, slice_get_within xs i x at, get_or_from_slice_get xs i x x at)

module _ {S : Type 0} (key : Bytes) where
  abbrev pub IsUnder : Found S → Type 0
  IsUnder x = x.head.key ≡ key

  one-under : (x : Found S) (same : Bool) (rest : List (Found S)) → (same ≡ true → IsUnder x) → All IsUnder rest → All IsUnder (cond same (x ∷ rest) rest)
  one-under x true rest is h = All-cons IsUnder x rest (is refl) h
  one-under x false rest is h = h

  under-key : (xs : List (Found S)) → All IsUnder (under xs key)
  under-key [] = All-nil IsUnder
  under-key (x ∷ xs) = one-under x (bytes_eq key x.head.key) (under xs key) (λ p. sym ((bytes_eq-Decides key x.head.key).0 p)) (under-key xs)

module _ {S : Type 0} (fragments : List (Fragment S)) where
  lent-under : (key : Bytes) (fields : Lent S) → All (IsUnder key) (all_found fragments fields) → All (λ x. key_at x ≡ key) fields
  lent-under key [] h = All-nil (λ x. key_at x ≡ key)
  lent-under key (x ∷ xs) h =
      All-cons (λ y. key_at y ≡ key) x xs (All-head (IsUnder key) _ (all_found fragments xs) h) (lent-under key xs (All-tail (IsUnder key) _ (all_found fragments xs) h))

  pub found-under : (key : Bytes) (fields : Lent S) → All (λ x. key_at x ≡ key) fields → All (IsUnder key) (all_found fragments fields)
  found-under key [] h = All-nil (IsUnder key)
  found-under key (x ∷ xs) h =
      All-cons (IsUnder key) _ (all_found fragments xs) (All-head (λ y. key_at y ≡ key) x xs h)
      (found-under key xs (All-tail (λ y. key_at y ≡ key) x xs h))

  group-keyed : (g : Group S) (key : Bytes) (xs : List (Found S)) → group_found fragments g ≡ (key, under xs key) → HasKey g
  group-keyed g key xs is =
      let same : g.0 ≡ key = ap (λ (h : Bytes × List (Found S)). h.0) is in
      let fields : all_found fragments g.1 ≡ under xs key = ap (λ (h : Bytes × List (Found S)). h.1) is in
      subst (λ k. All (λ x. key_at x ≡ k) g.1) (sym same) (lent-under key g.1 (subst (All (IsUnder key)) (sym fields) (under-key key xs)))

  all-keyed : (xs : List (Found S)) (ks : List Bytes) (gs : List (Group S)) → map (group_found fragments) gs ≡ map (λ key. (key, under xs key)) ks → All HasKey gs
  all-keyed xs ks [] is = All-nil HasKey
  all-keyed xs [] (g ∷ gs) is = cc
  all-keyed xs (k ∷ ks) (g ∷ gs) is =
      let first : group_found fragments g ≡ (k, under xs k) = cc in
      let rest : map (group_found fragments) gs ≡ map (λ key. (key, under xs key)) ks = cc in
      All-cons HasKey g gs (group-keyed g k xs first) (all-keyed xs ks gs rest)

  pub groups-keyed : (xs : List (Found S)) (gs : List (Group S)) → map (group_found fragments) gs ≡ groups xs → All HasKey gs
  groups-keyed xs gs is = all-keyed xs (keys xs) gs is
