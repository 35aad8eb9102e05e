-- What walks over selection sets give, whatever it is: any depth that suffices gives the same, and repeats give nothing.
use Rattle.std.proofs.Common.{◌≡◌, refl, sym, ◌∙◌, ap, ℕ, zero, suc, ◌≤◌, arith, List, [], ◌∷◌, ◌++◌, map}
use Rattle.std.specs.Str.{bytes_eq}
use Rattle.std.proofs.lemmas.List.{map-append}
use Rattle.std.proofs.lemmas.Grind.{flat_map-append}
use Rattle.std.proofs.lemmas.List.Elements.{filter-append}
use Rattle.graphql_names.specs.Names.{Bytes}
use Rattle.graphql_written_out.specs.Trees.{Tree}
use Rattle.graphql_written_out.specs.Fields.{Found, fields}
use Rattle.graphql_written_out.specs.Groups.{keys, under, groups}
use Rattle.graphql_written_out.specs.Repeats.{AddsButRepeats, Repeats}
use Rattle.graphql_semantics.specs.Engines.{Engine}
use Rattle.graphql_semantics.specs.Evaluation.{Group, found_in, highest, sets_below}
use Rattle.graphql_semantics.proofs.GroupRepeats.{adds-keys}
use Rattle.graphql_semantics.proofs.Heights.{no-found, top, top-found, top-under}
use Rattle.graphql_semantics.proofs.RepeatHeights.{highest-repeats, top-adds}
use Rattle.graphql_semantics.proofs.RepeatLemmas.{first, adds-first, adds-filter, adds-map, adds-flat}

-- what sets give on a node of an object type, at a place
abbrev pub Gives : Type 0 → Type 0 → Type 0 → Type 0 → Type 0
Gives S N P A = P → Bytes → N → List (Tree S) → A

-- a walk by groups: what it gives over a group hangs on the first field and on what it gives over the sets below
pub record Walk {S N : Type 0} (e : Engine S N) (P A B : Type 0) : Type 0 where
  pub of_group : Gives S N P A → P → Bytes → N → Group S → B
  pub combine : List B → A
  pub run : ℕ → Gives S N P A
  pub starts : (place : P) (object : Bytes) (node : N) (sets : List (Tree S)) → run 0 place object node sets ≡ combine []
  pub steps : (n : ℕ) (place : P) (object : Bytes) (node : N) (sets : List (Tree S))
      → run (suc n) place object node sets ≡ combine (map (of_group (run n) place object node) (groups (found_in e object sets)))
  pub depends : (r s : Gives S N P A) (place : P) (object : Bytes) (node : N) (key : Bytes) (xs ys : List (Found S)) → first xs ≡ first ys
      → ((p : P) (o : Bytes) (m : N) → r p o m (sets_below xs) ≡ s p o m (sets_below ys)) → of_group r place object node (key, xs) ≡ of_group s place object node (key, ys)

module _ {S N : Type 0} (e : Engine S N) {P A B : Type 0} (w : Walk e P A B) where
  -- over groups of low fields, walks give the same that do so over low sets
  groups-same : (r s : Gives S N P A) (place : P) (object : Bytes) (node : N) (xs : List (Found S))
      → ((p : P) (o : Bytes) (m : N) (ts : List (Tree S)) → highest ts ≤ top xs → r p o m ts ≡ s p o m ts)
      → (ks : List Bytes) → map (w.of_group r place object node) (map (λ key. (key, under xs key)) ks) ≡ map (w.of_group s place object node) (map (λ key. (key, under xs key)) ks)
  groups-same r s place object node xs h [] = refl
  groups-same r s place object node xs h (k ∷ ks) =
      let one : w.of_group r place object node (k, under xs k) ≡ w.of_group s place object node (k, under xs k) =
      w.depends r s place object node k (under xs k) (under xs k) refl (λ p o m. h p o m (sets_below (under xs k)) (top-under xs k)) in
      let ih = groups-same r s place object node xs h ks in
      λ i. one i ∷ ih i

  empty-run : (n : ℕ) (place : P) (object : Bytes) (node : N) (ts : List (Tree S)) → highest ts ≤ 0 → w.run n place object node ts ≡ w.combine []
  empty-run zero place object node ts h = w.starts place object node ts
  empty-run (suc n) place object node ts h =
      w.steps n place object node ts ∙ ap (λ xs. w.combine (map (w.of_group (w.run n) place object node) (groups xs))) (no-found e.drops (e.is_below object) ts h)

  -- any depth that suffices gives the same
  pub same-run : (n m : ℕ) (place : P) (object : Bytes) (node : N) (ts : List (Tree S)) → highest ts ≤ n → highest ts ≤ m → w.run n place object node ts ≡ w.run m place object node ts
  same-run zero m place object node ts h k = w.starts place object node ts ∙ sym (empty-run m place object node ts h)
  same-run (suc n) zero place object node ts h k = empty-run (suc n) place object node ts k ∙ sym (w.starts place object node ts)
  same-run (suc n) (suc m) place object node ts h k =
      let found : List (Found S) = found_in e object ts in
      let low : top found ≤ n = top-found e.drops (e.is_below object) ts n h in
      let low-2 : top found ≤ m = top-found e.drops (e.is_below object) ts m k in
      w.steps n place object node ts
      ∙ ap w.combine (groups-same (w.run n) (w.run m) place object node found (λ p o x us q. same-run n m p o x us (omega (arith, q, low)) (omega (arith, q, low-2))) (keys found))
      ∙ sym (w.steps m place object node ts)

  abbrev SameRuns : ℕ → Type 0
  SameRuns n = (place : P) (object : Bytes) (node : N) (old xs new : List (Tree S)) → AddsButRepeats (Tree S) old xs new
      → w.run n place object node new ≡ w.run n place object node (old ++ xs)

  module _ (n : ℕ) (same : SameRuns n) (place : P) (object : Bytes) (node : N) where
    abbrev over : Group S → B
    over = w.of_group (w.run n) place object node

    group-adds : (key : Bytes) (old xs new : List (Found S)) → AddsButRepeats (Found S) old xs new → over (key, new) ≡ over (key, old ++ xs)
    group-adds key old xs new a =
        w.depends (w.run n) (w.run n) place object node key new (old ++ xs) (adds-first a)
        (λ p o m. same p o m _ _ _ (adds-map (λ (y : Found S). y.below) a) ∙ ap (w.run n p o m) (sym (map-append (λ (y : Found S). y.below) old xs)))

    module _ (old xs new : List (Found S)) (a : AddsButRepeats (Found S) old xs new) where
      member-same : (key : Bytes) → over (key, under new key) ≡ over (key, under (old ++ xs) key)
      member-same key =
          group-adds key (under old key) (under xs key) (under new key) (adds-filter (λ (x : Found S). bytes_eq key x.head.key) a)
          ∙ ap (λ ys. over (key, ys)) (sym (filter-append (λ (x : Found S). bytes_eq key x.head.key) old xs))

      members-same : (ks : List Bytes) → map over (map (λ key. (key, under new key)) ks) ≡ map over (map (λ key. (key, under (old ++ xs) key)) ks)
      members-same [] = refl
      members-same (k ∷ ks) = λ i. member-same k i ∷ members-same ks i

      groups-repeat : w.combine (map over (groups new)) ≡ w.combine (map over (groups (old ++ xs)))
      groups-repeat =
          ap w.combine (members-same (keys new) ∙ ap (λ ks. map over (map (λ key. (key, under (old ++ xs) key)) ks)) (adds-keys [] a))

  same-runs : (n : ℕ) → SameRuns n
  same-runs zero place object node old xs new a = w.starts place object node new ∙ sym (w.starts place object node (old ++ xs))
  same-runs (suc n) place object node old xs new a =
      w.steps n place object node new
      ∙ groups-repeat n (same-runs n) place object node _ _ _ (adds-flat (fields e.drops (e.is_below object)) a)
      ∙ ap (λ fs. w.combine (map (w.of_group (w.run n) place object node) (groups fs))) (sym (flat_map-append (fields e.drops (e.is_below object)) old xs))
      ∙ sym (w.steps n place object node (old ++ xs))

  abbrev pub all : Gives S N P A
  all place object node sets = w.run (highest sets) place object node sets

  -- sets that differ by repeats give the same
  pub all-repeats : (place : P) (object : Bytes) (node : N) (ys xs : List (Tree S)) → Repeats ys xs → all place object node ys ≡ all place object node xs
  all-repeats place object node ys xs a =
      ap (λ n. w.run n place object node ys) (highest-repeats ys xs a) ∙ same-runs (highest xs) place object node [] xs ys a

  -- the groups of what was collected, repeats left out, over what the sets below them give
  pub all-groups : (place : P) (object : Bytes) (node : N) (sets : List (Tree S)) (ys : List (Found S)) → Repeats ys (found_in e object sets)
      → w.combine (map (w.of_group all place object node) (groups ys)) ≡ all place object node sets
  all-groups place object node sets ys a =
      let n : ℕ = highest sets in
      let found : List (Found S) = found_in e object sets in
      let low : top found ≤ highest sets = top-found e.drops (e.is_below object) sets (highest sets) (omega arith) in
      let lower : top ys ≤ highest sets = omega (arith, low, top-adds a) in
      ap w.combine (groups-same all (w.run n) place object node ys (λ p o m ts q. same-run (highest ts) n p o m ts (omega arith) (omega (arith, q, lower))) (keys ys))
      ∙ groups-repeat n (same-runs n) place object node [] found ys a
      ∙ sym (w.steps n place object node sets)
      ∙ same-run (suc n) n place object node sets (omega arith) (omega arith)
