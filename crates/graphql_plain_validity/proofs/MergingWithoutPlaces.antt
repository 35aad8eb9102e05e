-- Whether fields merge does not depend on places.
use Rattle.std.proofs.Common.{◌≡◌, ◌↔◌, refl, sym, ◌∙◌, ap, subst, ℕ, zero, suc, Bool, false, ◌||◌, List, ◌++◌, map, Some, None}
use Rattle.std.specs.Cmp.{IsEquivalence}
use Rattle.std.specs.List.{All, Contains}
use Rattle.std.proofs.lemmas.List.{map-append}
use Rattle.graphql_values.specs.SameValue.{SameValue}
use Rattle.graphql_values.specs.InputValues.{unlocated}
use Rattle.graphql_values.specs.declared.input_value.InputValue.{InputValue}
use Rattle.graphql_values.proofs.SamePlaces.{same_unlocated}
use Rattle.graphql_values.proofs.SameValueLaws.{by_a_third, either_way}
use Rattle.graphql_tree.specs.Arguments.{Argument}
use Rattle.graphql_tree.specs.Unlocated.{unlocated_argument}
use Rattle.graphql_schema.specs.declared.meta.MetaType.{MetaType}
use Rattle.graphql_written_out.specs.Trees.{Head, Tree, none, field, inline}
use Rattle.graphql_merging.specs.Members.{Member, Scope, inside, member, members, scope_of}
use Rattle.graphql_merging.specs.Merging.{Agree, IsAmong, Merges, Merging, SameArguments, apart}
use Rattle.graphql_rules_document.proofs.ListItems.{all-from, all-of, contains-map, image-of}
use Rattle.graphql_moved.specs.UnlocatedTrees.{unlocated_head, unlocated_tree}
use Rattle.graphql_plain_validity.specs.MergingLaws.{MergesWithoutPlaces}

module _ {S : Type 0} (eq : S → S → Bool) (laws : IsEquivalence eq) where
  abbrev u : Argument S → Argument S
  u = unlocated_argument

  -- of values that are the same without their places the one is the same as a third where the other is
  to-unlocated : (v x : InputValue S) → SameValue S eq v x → SameValue S eq (unlocated v) (unlocated x)
  to-unlocated v x h =
      by_a_third eq laws (unlocated v) v (unlocated x)
      (either_way eq laws v (unlocated v) (same_unlocated eq laws v))
      (by_a_third eq laws v x (unlocated x) h (same_unlocated eq laws x))

  from-unlocated : (v x : InputValue S) → SameValue S eq (unlocated v) (unlocated x) → SameValue S eq v x
  from-unlocated v x h =
      by_a_third eq laws v (unlocated v) x (same_unlocated eq laws v)
      (by_a_third eq laws (unlocated v) (unlocated x) x h
      (either_way eq laws x (unlocated x) (same_unlocated eq laws x)))

  among-unlocated : (others : List (Argument S)) (a : Argument S) → IsAmong eq others a
      → IsAmong eq (map u others) (u a)
  among-unlocated others a h =
      let there = contains-map u others h.1 (h.0, h.2, h.3) in
      (there.0, u h.1, there.1, there.2, (h.4.0, to-unlocated a.1.item h.1.1.item h.4.1))

  from-among : (others : List (Argument S)) (a : Argument S) → IsAmong eq (map u others) (u a)
      → IsAmong eq others a
  from-among others a h =
      let b = image-of u others h.1 (h.0, h.2, h.3) in
      let same : (u a).0.item ≡ b.0.0.item = h.4.0 ∙ sym (ap (λ (x : Argument S). x.0.item) b.2) in
      let value : SameValue S eq (unlocated a.1.item) (unlocated b.0.1.item) =
      subst (λ (x : Argument S). SameValue S eq (unlocated a.1.item) x.1.item) (sym b.2) h.4.1 in
      (b.1.0, b.0, b.1.1, b.1.2, (same, from-unlocated a.1.item b.0.1.item value))

  each-among : (xs ys : List (Argument S)) → All (IsAmong eq ys) xs
      → All (IsAmong eq (map u ys)) (map u xs)
  each-among xs ys h = all-from (IsAmong eq (map u ys)) (map u xs) (λ z i.
      let x = image-of u xs z i in
      subst (IsAmong eq (map u ys)) x.2 (among-unlocated ys x.0 (all-of (IsAmong eq ys) xs h x.0 x.1)))

  from-each : (xs ys : List (Argument S)) → All (IsAmong eq (map u ys)) (map u xs)
      → All (IsAmong eq ys) xs
  from-each xs ys h =
      all-from (IsAmong eq ys) xs
      (λ x i. from-among ys x
      (all-of (IsAmong eq (map u ys)) (map u xs) h (u x) (contains-map u xs x i)))

  arguments-alike : (xs ys : List (Argument S))
      → SameArguments eq xs ys ↔ SameArguments eq (map u xs) (map u ys)
  arguments-alike xs ys = (
    λ h. (each-among xs ys h.0, each-among ys xs h.1),
    λ h.
        (from-each xs ys h.0, from-each ys xs h.1),
  )

  module _ {C : Type 0} (types : List (MetaType S C)) where
    abbrev b : Member S C → Member S C
    b m = record { parent = m.parent; head = unlocated_head m.head; below = unlocated_tree m.below }

    member-unlocated : (scope : Scope S C) (head : Head S) (below : Tree S)
        → member scope (unlocated_head head) (unlocated_tree below) ≡ map b (member scope head below)
    member-unlocated None head below = refl
    member-unlocated (Some parent) head below = refl

    members-unlocated : (scope : Scope S C) (t : Tree S)
        → members types scope (unlocated_tree t) ≡ map b (members types scope t)
    members-unlocated scope none = refl
    members-unlocated scope (field head directives below rest) =
        (λ i. member-unlocated scope head below i ++ members-unlocated scope rest i)
        ∙ sym (map-append b (member scope head below) (members types scope rest))
    members-unlocated scope (inline on directives below rest) =
        (λ i. members-unlocated (inside types scope on) below i ++ members-unlocated scope rest i)
        ∙ sym
        (map-append b (members types (inside types scope on) below) (members types scope rest))

    in-unlocated : (scope : Scope S C) (t : Tree S) (m : Member S C) → Contains (members types scope t) m
        → Contains (members types scope (unlocated_tree t)) (b m)
    in-unlocated scope t m i =
        subst (λ ms. Contains ms (b m)) (sym (members-unlocated scope t))
        (contains-map b (members types scope t) m i)

    of-unlocated : (scope : Scope S C) (t : Tree S) (c : Member S C)
        → Contains (members types scope (unlocated_tree t)) c
        → (m : Member S C) × Contains (members types scope t) m × (b m ≡ c)
    of-unlocated scope t c i =
        image-of b (members types scope t) c (subst (λ ms. Contains ms c) (members-unlocated scope t) i)

    agree-alike : (x : Bool) (m n : Member S C)
        → Agree eq types x m n ↔ Agree eq types x (b m) (b n)
    agree-alike x m n =
        let same = arguments-alike m.head.arguments n.head.arguments in (
          (λ h. ((λ e. ((h.0 e).0, same.0 (h.0 e).1)), h.1)),
          (λ h. ((λ e. ((h.0 e).0, same.1 (h.0 e).1)), h.1)),
        )

    -- fields merge where they do without their places
    merges-alike : (k : ℕ) (x : Bool) (m n : Member S C)
        → Merges eq types k x m n ↔ Merges eq types k x (b m) (b n)
    merges-alike zero x m n = (λ h. tt, λ h. tt)
    merges-alike (suc k) x m n =
        let agree = agree-alike x m n in
        let at = scope_of types m.parent m.head.name in
        let there = scope_of types n.parent n.head.name in (
          (λ h. (
            agree.0 h.0,
            λ c d i j e.
                let o = of-unlocated at m.below c i in
                let p = of-unlocated there n.below d j in
                let key : o.0.head.key ≡ p.0.head.key =
                ap (λ (z : Member S C). z.head.key) o.2 ∙ e
                ∙ sym (ap (λ (z : Member S C). z.head.key) p.2) in
                subst (λ z. Merges eq types k (x || apart m n) z d) o.2
                (subst (λ z. Merges eq types k (x || apart m n) (b o.0) z) p.2
                ((merges-alike k (x || apart m n) o.0 p.0).0 (h.1 o.0 p.0 o.1 p.1 key))),
          )),
          (λ h. (
            agree.1 h.0,
            λ c d i j e. (merges-alike k (x || apart m n) c d).1
                (h.1 (b c) (b d) (in-unlocated at m.below c i) (in-unlocated there n.below d j) e),
          )),
        )

    merges-without-places : (scope : Scope S C) (t v : Tree S) → unlocated_tree t ≡ unlocated_tree v
        → Merging eq types (members types scope t) → Merging eq types (members types scope v)
    merges-without-places scope t v same h m n i j e k =
        let at =
        λ (o : Member S C) (l : Contains (members types scope v) o). of-unlocated scope t (b o)
        (subst (λ z. Contains (members types scope z) (b o)) (sym same) (in-unlocated scope v o l)) in
        let p = at m i in
        let q = at n j in
        let key : p.0.head.key ≡ q.0.head.key =
        ap (λ (z : Member S C). z.head.key) p.2 ∙ e
        ∙ sym (ap (λ (z : Member S C). z.head.key) q.2) in
        let merged = (merges-alike k false p.0 q.0).0 (h p.0 q.0 p.1 q.1 key k) in
        (merges-alike k false m n).1
        (subst (λ z. Merges eq types k false z (b n)) p.2
        (subst (λ z. Merges eq types k false (b p.0) z) q.2 merged))

pub merging-without-places : (S C : Type 0) (eq : S → S → Bool) → IsEquivalence eq
    → MergesWithoutPlaces S C eq
merging-without-places S C eq laws types = merges-without-places eq laws types
