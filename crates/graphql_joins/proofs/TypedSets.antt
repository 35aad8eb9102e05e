-- Typed sets: what applies to an object type is what is collected for it, and the own sets of fields are typed.
use Rattle.std.proofs.Common.{◌≡◌, refl, ◌∙◌, ap, subst, arith, Bool, true, false, not, ◌||◌, List, [], ◌∷◌, ◌++◌, map}
use Rattle.std.proofs.Common.{Some, None, cond, inl, inr}
use Rattle.std.specs.List.{All, Contains, flat_map}
use Rattle.std.proofs.lemmas.List.{map-append}
use Rattle.std.proofs.lemmas.List.Elements.{All-nil, All-cons, Contains-append_right, Contains-append_cases}
use Rattle.graphql_names.specs.Names.{Bytes}
use Rattle.graphql_schema.specs.declared.meta.MetaType.{MetaType}
use Rattle.graphql_written_out.specs.Trees.{Directives, Tree, none, field, inline}
use Rattle.graphql_written_out.specs.Fields.{Found, applies, fields}
use Rattle.graphql_merging.specs.Members.{Member, Scope, inside, scope_of}
use Rattle.graphql_merging.specs.Sets.{Set}
use Rattle.graphql_merging.proofs.Nested.{one-only, in-nothing}
use Rattle.graphql_merging.specs.Chosen.{found_of, own_set, chosen, chosen_of, chosen_of_all, IsAbove}
use Rattle.graphql_joins.specs.Laws.{trees}
use Rattle.graphql_joins.specs.Typed.{AreTyped, HasDistinctArguments, IsTyped}

module _ {S C : Type 0} (types : List (MetaType S C)) where
  abbrev pub TypedMember : Member S C → Type 0
  TypedMember m = HasDistinctArguments m.head × IsTyped types (scope_of types m.parent m.head.name) m.below

  pub typed-left : (ss ts : List (Set S C)) → AreTyped types (ss ++ ts) → AreTyped types ss
  typed-left [] ts h = tt
  typed-left (s ∷ ss) ts h = (h.0, typed-left ss ts h.1)

  pub typed-right : (ss ts : List (Set S C)) → AreTyped types (ss ++ ts) → AreTyped types ts
  typed-right [] ts h = h
  typed-right (s ∷ ss) ts h = typed-right ss ts h.1

  pub typed-own : (ms : List (Member S C)) → ((m : Member S C) → Contains ms m → TypedMember m)
      → AreTyped types (map (own_set types) ms)
  typed-own [] h = tt
  typed-own (m ∷ ms) h =
      ((h m (0, omega arith, refl)).1, typed-own ms (λ n i. h n (Contains-append_right (m ∷ []) ms n i)))

  pub above-own : (is_above : Bytes → Bool) (ms : List (Member S C))
      → ((m : Member S C) → Contains ms m → IsAbove types is_above (own_set types m))
      → All (IsAbove types is_above) (map (own_set types) ms)
  above-own is_above [] h = All-nil (IsAbove types is_above)
  above-own is_above (m ∷ ms) h =
      All-cons (IsAbove types is_above) (own_set types m) (map (own_set types) ms) (h m (0, omega arith, refl))
      (above-own is_above ms (λ n i. h n (Contains-append_right (m ∷ []) ms n i)))

  module _ (drops : Directives S → Bool) (is_above : Bytes → Bool) where
    both : (q : Bool) (xs ys : List (Member S C)) (us vs : List (Found S)) → map found_of xs ≡ us
        → map found_of ys ≡ vs → map found_of (cond q ys (xs ++ ys)) ≡ cond q vs (us ++ vs)
    both true xs ys us vs e f = f
    both false xs ys us vs e f = map-append found_of xs ys ∙ (λ i. e i ++ f i)

    one : (q : Bool) (x : Member S C) (ys : List (Member S C)) (vs : List (Found S)) → map found_of ys ≡ vs
        → map found_of (cond q ys (x ∷ ys)) ≡ cond q vs (found_of x ∷ vs)
    one true x ys vs f = f
    one false x ys vs f = ap (λ zs. found_of x ∷ zs) f

    collected : (scope : Scope S C) (t : Tree S) → IsTyped types scope t
        → map found_of (chosen types drops is_above scope t) ≡ fields drops is_above t
    collected scope none h = refl
    collected None (field head directives below rest) h = absurd h
    collected (Some parent) (field head directives below rest) h =
        one (drops directives) _ _ _ (collected (Some parent) rest h.2)
    collected None (inline on directives below rest) h = absurd h
    collected (Some parent) (inline on directives below rest) h =
        both (drops directives || not (applies is_above on)) _ _ _ _
        (collected (inside types (Some parent) on) below h.0) (collected (Some parent) rest h.1)

    pub collected-all : (sets : List (Set S C)) → AreTyped types sets
        → map found_of (chosen_of_all types drops is_above sets) ≡ flat_map (fields drops is_above) (trees sets)
    collected-all [] h = refl
    collected-all (s ∷ sets) h =
        let first = collected s.scope s.tree h.0 in
        let ih = collected-all sets h.1 in
        map-append found_of (chosen_of types drops is_above s) (chosen_of_all types drops is_above sets)
        ∙ (λ i. first i ++ ih i)

    of-field : (q : Bool) (x : Member S C) (rest : List (Member S C)) → TypedMember x
        → ((m : Member S C) → Contains rest m → TypedMember m) → (m : Member S C) → Contains (cond q rest (x ∷ rest)) m
        → TypedMember m
    of-field true x rest h k m i = k m i
    of-field false x rest h k m i =
        elim (Contains-append_cases (x ∷ []) rest m i) [ inl j ↦ subst TypedMember (one-only x m j) h | inr j ↦ k m j ]

    of-inline : (q : Bool) (xs rest : List (Member S C)) → ((m : Member S C) → Contains xs m → TypedMember m)
        → ((m : Member S C) → Contains rest m → TypedMember m) → (m : Member S C)
        → Contains (cond q rest (xs ++ rest)) m → TypedMember m
    of-inline true xs rest h k m i = k m i
    of-inline false xs rest h k m i = elim (Contains-append_cases xs rest m i) [ inl j ↦ h m j | inr j ↦ k m j ]

    typed-chosen : (scope : Scope S C) (t : Tree S) → IsTyped types scope t → (m : Member S C)
        → Contains (chosen types drops is_above scope t) m → TypedMember m
    typed-chosen scope none h m i = in-nothing m i
    typed-chosen None (field head directives below rest) h m i = absurd h
    typed-chosen (Some parent) (field head directives below rest) h m i =
        of-field (drops directives) (record { parent = parent; head = head; below = below }) _ (h.0, h.1)
        (typed-chosen (Some parent) rest h.2) m i
    typed-chosen None (inline on directives below rest) h m i = absurd h
    typed-chosen (Some parent) (inline on directives below rest) h m i =
        of-inline (drops directives || not (applies is_above on)) _ _
        (typed-chosen (inside types (Some parent) on) below h.0) (typed-chosen (Some parent) rest h.1) m i

    pub typed-all : (sets : List (Set S C)) → AreTyped types sets → (m : Member S C)
        → Contains (chosen_of_all types drops is_above sets) m → TypedMember m
    typed-all [] h m i = in-nothing m i
    typed-all (s ∷ sets) h m i =
        elim (Contains-append_cases (chosen_of types drops is_above s) (chosen_of_all types drops is_above sets) m i) [
          | inl j ↦ typed-chosen s.scope s.tree h.0 m j
          | inr j ↦ typed-all sets h.1 m j
        ]
