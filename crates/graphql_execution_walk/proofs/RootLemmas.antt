-- The groups of a root, answered one after the other.
use Rattle.std.proofs.Common.{◌≡◌, refl, sym, ◌∙◌, ap, subst, ℕ, ◌+◌, ◌<◌, List, [], ◌∷◌, ◌++◌, map, length, Option, Some, None, option_map, get_or, take}
use Rattle.std.specs.Prelude.{IfSome}
use Rattle.std.specs.List.{IsDistinct}
use Rattle.std.specs.Map.{keys_of}
use Rattle.std.specs.Str.{bytes_eq}
use Rattle.std.proofs.lemmas.List.{map-append, take_more}
use Rattle.graphql_names.specs.Names.{Bytes}
use Rattle.graphql_tree.specs.declared.document.Fragment.{Fragment}
use Rattle.graphql_output_values.specs.Objects.{HasDistinctKeys, Pair}
use Rattle.graphql_output_values.specs.declared.value.Value.{Value}
use Rattle.graphql_written_out.specs.Fields.{Found}
use Rattle.graphql_written_out.specs.Groups.{groups}
use Rattle.graphql_collect.specs.Grouped.{Group, all_found, group_found}
use Rattle.graphql_semantics.specs.Completion.{Members}
use Rattle.graphql_semantics.specs.Engines.{Engine}
use Rattle.graphql_semantics.specs.Evaluation.{evaluate, group, keyed}
use Rattle.graphql_semantics.specs.Outcomes.{Outcome, both, together}
use Rattle.graphql_semantics.proofs.GroupKeys.{distinct-groups}
use Rattle.graphql_execution_walk.specs.declared.report.Report.{Report}
use Rattle.graphql_execution_walk.specs.GivesOutcome.{GivesOutcome}
use Rattle.graphql_execution_walk.proofs.OutcomeLemmas.{gives-last, gives-map}

both-keyed : {S : Type 0} (k : Bytes) (m : Option (Members S)) (v : Option (Value S)) → both (λ xs x. xs ++ (k, x) ∷ []) m v ≡ both (λ xs y. xs ++ y ∷ []) m (option_map (λ x. (k, x)) v)
both-keyed k None v = refl
both-keyed k (Some xs) None = refl
both-keyed k (Some xs) (Some x) = refl

one-more : {S : Type 0} (key : Bytes) (keys : List Bytes) (o : Option (Value S)) (os : Option (Members S))
    → IfSome os (λ ms. keys_of ms ≡ keys) → IfSome (both (λ x xs. x ∷ xs) (option_map (λ x. (key, x)) o) os) (λ ms. keys_of ms ≡ key ∷ keys)
one-more key keys None os h = tt
one-more key keys (Some x) None h = tt
one-more key keys (Some x) (Some ms) h = ap (λ ks. key ∷ ks) h

distinct-if : {S : Type 0} (ks : List Bytes) (ms : Option (Members S)) → IsDistinct bytes_eq ks → IfSome ms (λ xs. keys_of xs ≡ ks) → IfSome ms HasDistinctKeys
distinct-if ks None d h = tt
distinct-if ks (Some xs) d h = subst (IsDistinct bytes_eq) (sym h) d

module _ {S N : Type 0} (fragments : List (Fragment S)) (e : Engine S N) (path : List Bytes) (object : Bytes) (node : N) where
  abbrev one_group : Bytes × List (Found S) → Outcome S (Pair (Value S))
  one_group = keyed e (evaluate e) path object node

  abbrev pub by_groups : List (Group S) → Outcome S (Members S)
  by_groups gs = together (map one_group (map (group_found fragments) gs))

  pub groups-more : (items : List (Group S)) (i : ℕ) (x : Group S) (old mid new : Report S) (members : Option (Members S)) (value : Option (Value S)) (more : Option (Members S))
      → GivesOutcome (by_groups (take i items)) old members mid → i < length items → x ≡ get_or items i x
      → GivesOutcome (group e (evaluate e) path object node x.0 (all_found fragments x.1)) mid value new
      → more ≡ both (λ xs y. xs ++ (x.0, y) ∷ []) members value
      → GivesOutcome (by_groups (take (i + 1) items)) old more new
  groups-more items i x old mid new members value more g h same one grown =
      let taken : take (i + 1) items ≡ take i items ++ x ∷ [] = take_more items i x h ∙ ap (λ y. take i items ++ y ∷ []) (sym same) in
      let mapped : map one_group (map (group_found fragments) (take (i + 1) items)) ≡ map one_group (map (group_found fragments) (take i items)) ++ one_group (group_found fragments x) ∷ [] =
      ap (λ ys. map one_group (map (group_found fragments) ys)) taken ∙ ap (map one_group) (map-append (group_found fragments) (take i items) (x ∷ []))
      ∙ map-append one_group (map (group_found fragments) (take i items)) (group_found fragments x ∷ []) in
      subst (λ os. GivesOutcome (together os) old more new) (sym mapped)
      (gives-last (map one_group (map (group_found fragments) (take i items))) (one_group (group_found fragments x)) old mid new members (option_map (λ y. (x.0, y)) value) more g
      (gives-map (λ y. (x.0, y)) (group e (evaluate e) path object node x.0 (all_found fragments x.1)) mid new value one)
      (grown ∙ both-keyed x.0 members value))

  keys-together : (gs : List (Bytes × List (Found S))) → IfSome (together (map one_group gs)).value (λ ms. keys_of ms ≡ map (λ g. g.0) gs)
  keys-together [] = refl
  keys-together (g ∷ gs) = one-more g.0 (map (λ h. h.0) gs) (group e (evaluate e) path object node g.0 g.1).value (together (map one_group gs)).value (keys-together gs)

  -- the members of all groups have distinct keys
  pub members-distinct : (xs : List (Found S)) (gs : List (Group S)) (members : Option (Members S)) → map (group_found fragments) gs ≡ groups xs → members ≡ (by_groups gs).value
      → IfSome members HasDistinctKeys
  members-distinct xs gs members is p =
      subst (λ ms. IfSome ms HasDistinctKeys) (sym (p ∙ ap (λ hs. (together (map one_group hs)).value) is))
      (distinct-if (map (λ g. g.0) (groups xs)) (together (map one_group (groups xs))).value (distinct-groups xs) (keys-together (groups xs)))
