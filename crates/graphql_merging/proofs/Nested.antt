-- The sets in a set.
use Rattle.std.proofs.Common.{◌≡◌, refl, sym, subst, ℕ, zero, suc, ◌<◌, arith, Bool, List, [], ◌∷◌, ◌++◌, Some, None, get_or, inl, inr, lit<}
use Rattle.std.specs.List.{Contains}
use Rattle.std.proofs.lemmas.List.Elements.{Contains-get_or, Contains-append_left, Contains-append_right, Contains-append_cases}
use Rattle.graphql_schema.specs.declared.meta.MetaType.{MetaType}
use Rattle.graphql_written_out.specs.Trees.{Head, Tree, none, field, inline}
use Rattle.graphql_merging.specs.Members.{Member, Scope, member, inside, members, members_below}
use Rattle.graphql_merging.specs.Merging.{Merges, Merging}
use Rattle.graphql_merging.specs.Sets.{Set, members_of, scope_of_field, sets_in, sets_of}
use Rattle.graphql_merging.specs.Laws.{NestedSetsFollow}
use Rattle.graphql_merging.proofs.Standing.{apart-self}

pub one-only : {X : Type 0} (x y : X) → Contains (x ∷ []) y → x ≡ y
one-only x y h = at h.0 h.1 h.2
  where
    at : (k : ℕ) → k < 1 → get_or (x ∷ []) k y ≡ y → x ≡ y
    at zero lt e = e
    at (suc k) lt e = absurd (omega (arith, lt))

pub in-nothing : {X : Type 0} {A : Type 0} (x : X) → Contains [] x → A
in-nothing x h = absurd (omega (arith, h.1))

module _ {S C : Type 0} (eq : S → S → Bool) (types : List (MetaType S C)) where
  pub merging-part : (ms ns : List (Member S C)) → ((m : Member S C) → Contains ns m → Contains ms m) → Merging eq types ms → Merging eq types ns
  merging-part ms ns h m a b i j e = m a b (h a i) (h b j) e

  pub merging-below : (ms : List (Member S C)) (a : Member S C) → Contains ms a → Merging eq types ms → Merging eq types (members_below types a)
  merging-below ms a i m c d p q e n = subst (λ x. Merges eq types n x c d) (apart-self eq a) ((m a a i i refl (suc n)).1 c d p q e)

  members-None : (t : Tree S) → members types None t ≡ []
  members-None none = refl
  members-None (field head directives below rest) = members-None rest
  members-None (inline on directives below rest) = (λ i. members-None below i ++ members-None rest i)

  own-merging : (scope : Scope S C) (head : Head S) (below : Tree S) (ms : List (Member S C)) → ((m : Member S C) → Contains (member scope head below) m → Contains ms m)
      → Merging eq types ms → Merging eq types (members types (scope_of_field types scope head.name) below)
  own-merging None head below ms h m = subst (Merging eq types) (sym (members-None below)) (λ a b i j e. in-nothing a i)
  own-merging (Some parent) head below ms h m =
      let a : Member S C = record { parent = parent; head = head; below = below } in
      merging-below ms a (h a (0, lit< tt, refl)) m

  Follows : List (Set S C) → Type 0
  Follows sets = (inner : Set S C) → Contains sets inner → Merging eq types (members_of types inner)

  follows-both : (xs ys : List (Set S C)) → Follows xs → Follows ys → Follows (xs ++ ys)
  unfolding Follows
  follows-both xs ys f g inner h = elim (Contains-append_cases xs ys inner h) [ inl i ↦ f inner i | inr i ↦ g inner i ]

  follows-one : (set : Set S C) → Merging eq types (members_of types set) → Follows (set ∷ [])
  unfolding Follows
  follows-one set m inner h = subst (λ (s : Set S C). Merging eq types (members_of types s)) (one-only set inner h) m

  nested : (scope : Scope S C) (t : Tree S) → Merging eq types (members types scope t) → Follows (sets_in types scope t)
  unfolding Follows
  nested scope none m = λ inner h. in-nothing inner h
  nested scope (field head directives below rest) m =
      let ms = members types scope (field head directives below rest) in
      let own = own-merging scope head below ms (λ a i. Contains-append_left (member scope head below) (members types scope rest) a i) m in
      let set : Set S C = record { scope = scope_of_field types scope head.name; tree = below } in
      follows-both (set ∷ sets_in types (scope_of_field types scope head.name) below) (sets_in types scope rest)
      (follows-both (set ∷ []) (sets_in types (scope_of_field types scope head.name) below) (follows-one set own) (nested (scope_of_field types scope head.name) below own))
      (nested scope rest (merging-part ms (members types scope rest) (λ a i. Contains-append_right (member scope head below) (members types scope rest) a i) m))
  nested scope (inline on directives below rest) m =
      let ms = members types scope (inline on directives below rest) in
      let here = members types (inside types scope on) below in
      let inner = merging-part ms here (λ a i. Contains-append_left here (members types scope rest) a i) m in
      let set : Set S C = record { scope = inside types scope on; tree = below } in
      follows-both (set ∷ sets_in types (inside types scope on) below) (sets_in types scope rest)
      (follows-both (set ∷ []) (sets_in types (inside types scope on) below) (follows-one set inner) (nested (inside types scope on) below inner))
      (nested scope rest (merging-part ms (members types scope rest) (λ a i. Contains-append_right here (members types scope rest) a i) m))

pub nested-sets-follow : (S C : Type 0) (eq : S → S → Bool) → NestedSetsFollow S C eq
unfolding Follows
nested-sets-follow S C eq types set m k d within =
    follows-both eq types (set ∷ []) (sets_in types set.scope set.tree) (follows-one eq types set m) (nested eq types set.scope set.tree m)
    _ (Contains-get_or (sets_of types set) k d within)
