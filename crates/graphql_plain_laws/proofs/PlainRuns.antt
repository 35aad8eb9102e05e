-- Plain sets give what the sets give.
use Rattle.std.proofs.Common.{◌≡◌, refl, sym, ◌∙◌, ap, ℕ, zero, suc, ◌≤◌, arith, Bool, true, false, List, [], ◌∷◌, ◌++◌, map, cond}
use Rattle.std.specs.List.{list_any}
use Rattle.std.specs.Str.{bytes_eq}
use Rattle.std.proofs.lemmas.List.{map-append}
use Rattle.graphql_names.specs.Names.{Bytes}
use Rattle.graphql_output_values.specs.Objects.{Pair}
use Rattle.graphql_output_values.specs.declared.value.Value.{Value}
use Rattle.graphql_written_out.specs.Trees.{Directives, Tree, height}
use Rattle.graphql_written_out.specs.Fields.{Found, fields}
use Rattle.graphql_written_out.specs.Groups.{keys_after, keys, under, groups}
use Rattle.graphql_semantics.specs.Engines.{Engine}
use Rattle.graphql_semantics.specs.Outcomes.{Outcome, outcome_map, together}
use Rattle.graphql_semantics.specs.Evaluation.{Group, RunOfSets, field_outcome, evaluate, found_in, group, highest, keyed, run, sets_below}
use Rattle.graphql_semantics.proofs.Depths.{evaluate-run}
use Rattle.graphql_plain_tree.specs.Laws.{Fit, plain_found}
use Rattle.graphql_plain_tree.specs.Plain.{plain}
use Rattle.graphql_plain_tree.proofs.Heights.{not-higher}
use Rattle.graphql_plain_tree.proofs.PlainFields.{fields-plain}

-- ---- the groups of fields whose sets have become plain

module _ {S : Type 0} (drops : Directives S → Bool) (stand_in : Directives S) where
  abbrev P : Found S → Found S
  P = plain_found drops stand_in

  abbrev plains : List (Tree S) → List (Tree S)
  plains = map (plain drops stand_in)

  keys_after-plain : (done : List Bytes) (xs : List (Found S)) → keys_after done (map P xs) ≡ keys_after done xs
  keys_after-plain done [] = refl
  keys_after-plain done (x ∷ xs) =
      let more : List Bytes = done ++ x.head.key ∷ [] in
      elim (list_any (bytes_eq x.head.key) done)
      as (λ q. cond q (keys_after done (map P xs)) (x.head.key ∷ keys_after more (map P xs)) ≡ cond q (keys_after done xs) (x.head.key ∷ keys_after more xs))
      [ true ↦ keys_after-plain done xs | false ↦ ap (λ ks. x.head.key ∷ ks) (keys_after-plain more xs) ]

  under-plain : (xs : List (Found S)) (k : Bytes) → under (map P xs) k ≡ map P (under xs k)
  under-plain [] k = refl
  under-plain (x ∷ xs) k =
      elim (bytes_eq k x.head.key) as (λ q. cond q (P x ∷ under (map P xs) k) (under (map P xs) k) ≡ map P (cond q (x ∷ under xs k) (under xs k)))
      [ true ↦ ap (λ ys. P x ∷ ys) (under-plain xs k) | false ↦ under-plain xs k ]

  below-plain : (xs : List (Found S)) → sets_below (map P xs) ≡ plains (sets_below xs)
  below-plain [] = refl
  below-plain (x ∷ xs) = ap (λ ts. plain drops stand_in x.below ∷ ts) (below-plain xs)

  lower : (ts : List (Tree S)) → highest (plains ts) ≤ highest ts
  lower [] = omega arith
  lower (t ∷ ts) =
      let one : height (plain drops stand_in t) ≤ height t = (not-higher drops stand_in t).0 in
      let ih : highest (plains ts) ≤ highest ts = lower ts in
      omega arith

each-group : {A B : Type 0} (over : A → B) (f g : Bytes → A) → ((key : Bytes) → over (f key) ≡ over (g key)) → (ks : List Bytes)
    → map over (map f ks) ≡ map over (map g ks)
each-group over f g h [] = refl
each-group over f g h (k ∷ ks) = λ i. h k i ∷ each-group over f g h ks i

-- ---- what they give

module _ {S N : Type 0} (e : Engine S N) (stand_in : Directives S) (fit : Fit e.drops stand_in) where
  abbrev pf : Found S → Found S
  pf = plain_found e.drops stand_in

  abbrev pt : List (Tree S) → List (Tree S)
  pt = plains e.drops stand_in

  found-plain : (object : Bytes) (ts : List (Tree S)) → found_in e object (pt ts) ≡ map pf (found_in e object ts)
  found-plain object [] = refl
  found-plain object (t ∷ ts) =
      let one = fields-plain e.drops stand_in fit (e.is_below object) t in
      let ih = found-plain object ts in
      (λ i. one i ++ ih i) ∙ sym (map-append pf (fields e.drops (e.is_below object) t) (found_in e object ts))

  -- a way to run sets that gives the same for plain sets
  abbrev Same : RunOfSets S N → Type 0
  Same r = (path : List Bytes) (object : Bytes) (node : N) (ts : List (Tree S)) → r path object node (pt ts) ≡ r path object node ts

  group-plain : (r : RunOfSets S N) → Same r → (path : List Bytes) (object : Bytes) (node : N) (key : Bytes) (xs : List (Found S))
      → group e r path object node key (map pf xs) ≡ group e r path object node key xs
  group-plain r h path object node key [] = refl
  group-plain r h path object node key (x ∷ xs) =
      let at : List Bytes = path ++ key ∷ [] in
      let same : (m : N) → r at (e.concrete m) m (sets_below (map pf (x ∷ xs))) ≡ r at (e.concrete m) m (sets_below (x ∷ xs)) =
      λ m. ap (λ ts. r at (e.concrete m) m ts) (below-plain e.drops stand_in (x ∷ xs)) ∙ h at (e.concrete m) m (sets_below (x ∷ xs)) in
      λ i. field_outcome e (λ m. same m i) at object node x.head

  run-plain : (n : ℕ) → Same (run e n)
  run-plain zero path object node ts = refl
  run-plain (suc n) path object node ts =
      let found : List (Found S) = found_in e object ts in
      let over : Group S → Outcome S (Pair (Value S)) = keyed e (run e n) path object node in
      let one : (key : Bytes) → over (key, under (map pf found) key) ≡ over (key, under found key) =
      λ key. ap (outcome_map (λ x. (key, x)))
      (ap (λ xs. group e (run e n) path object node key xs) (under-plain e.drops stand_in found key)
      ∙ group-plain (run e n) (run-plain n) path object node key (under found key)) in
      ap (λ xs. together (map over (groups xs))) (found-plain object ts)
      ∙ ap together (each-group over (λ key. (key, under (map pf found) key)) (λ key. (key, under found key)) one (keys (map pf found)))
      ∙ ap (λ ks. together (map over (map (λ key. (key, under found key)) ks))) (keys_after-plain e.drops stand_in [] found)

  pub evaluate-plain : (path : List Bytes) (object : Bytes) (node : N) (ts : List (Tree S))
      → evaluate e path object node (pt ts) ≡ evaluate e path object node ts
  evaluate-plain path object node ts =
      sym (evaluate-run e (highest ts) path object node (pt ts) (lower e.drops stand_in ts)) ∙ run-plain (highest ts) path object node ts
