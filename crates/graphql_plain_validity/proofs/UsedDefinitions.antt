-- Of definitions those of names that are used.
use Rattle.std.proofs.Common.{◌≡◌, refl, sym, ◌∙◌, ap, subst, arith, Bool, true, false, List, [], ◌∷◌, map, cond, inl, inr}
use Rattle.std.specs.List.{Contains, filter}
use Rattle.std.proofs.lemmas.List.Elements.{Contains-append_cases, Contains-append_right}
use Rattle.graphql_names.specs.Names.{Bytes, is_one_of}
use Rattle.graphql_tree.specs.Variables.{Variable}
use Rattle.graphql_occurrences.specs.Occurrences.{variable_part}
use Rattle.graphql_occurrences.specs.Parts.{VariablePart}
use Rattle.graphql_rules_document.proofs.ListItems.{contains-map, image-of, nothing-in, only-one}
use Rattle.graphql_plain_tree.specs.PlainOperations.{definitions_used, without_directives}
use Rattle.graphql_plain_validity.proofs.VariableNames.{names_of}
use Rattle.graphql_plain_validity.proofs.UsedNames.{among, one-of}

module _ {S : Type 0} (names : List Bytes) where
  abbrev keeps : Variable S → Bool
  keeps v = is_one_of names v.0.item

  used-in : (vs : List (Variable S)) (v : Variable S) → Contains vs v → keeps v ≡ true
      → Contains (definitions_used names vs) (without_directives v)
  used-in [] v i kept = nothing-in v i
  used-in (w ∷ vs) v i kept = elim (Contains-append_cases (w ∷ []) vs v i) [
    | inl j ↦ (let same : w ≡ v = only-one w v j in
        subst
        (λ b. Contains (map without_directives (cond b (w ∷ filter keeps vs) (filter keeps vs)))
        (without_directives v)) (sym (ap keeps same ∙ kept))
        (0, omega arith, ap without_directives same))
    | inr j ↦ (let later = used-in vs v j kept in
        elim (keeps w) as
        (λ b. Contains (map without_directives (cond b (w ∷ filter keeps vs) (filter keeps vs)))
        (without_directives v)) [
          | true ↦ Contains-append_right (without_directives w ∷ []) (definitions_used names vs)
              (without_directives v) later
          | false ↦ later
        ])
  ]

  pub used-from : (vs : List (Variable S)) (w : Variable S) → Contains (definitions_used names vs) w
      → (v : Variable S) × Contains vs v × (without_directives v ≡ w) × (keeps v ≡ true)
  used-from [] w i = nothing-in w i
  used-from (v ∷ vs) w i =
      let cases : (b : Bool) → keeps v ≡ b → Contains
      (map without_directives (cond b (v ∷ filter keeps vs) (filter keeps vs))) w →
      (u : Variable S) × Contains (v ∷ vs) u × (without_directives u ≡ w) × (keeps u ≡ true) =
      elim [
        | true ↦
            (λ e j. elim
            (Contains-append_cases (without_directives v ∷ []) (definitions_used names vs) w j) [
              | inl k ↦ (v, (0, omega arith, refl), only-one (without_directives v) w k, e)
              | inr k ↦
                  (let u = used-from vs w k in
                  (u.0, Contains-append_right (v ∷ []) vs u.0 u.1, u.2, u.3))
            ])
        | false ↦
            (λ e j. let u = used-from vs w j in
            (u.0, Contains-append_right (v ∷ []) vs u.0 u.1, u.2, u.3))
      ] in cases (keeps v) refl i

  -- the names of definitions
  definition-of : (vs : List (Variable S)) (n : Bytes)
      → Contains (names_of (map variable_part vs)) n
      → (v : Variable S) × Contains vs v × (v.0.item ≡ n)
  definition-of vs n i =
      let part = image-of (λ (v : VariablePart S). v.name.item) (map variable_part vs) n i in
      let v = image-of variable_part vs part.0 part.1 in
      (v.0, v.1, ap (λ (q : VariablePart S). q.name.item) v.2 ∙ part.2)

  name-in : (vs : List (Variable S)) (v : Variable S) → Contains vs v
      → Contains (names_of (map variable_part vs)) v.0.item
  name-in vs v i =
      contains-map (λ (q : VariablePart S). q.name.item) (map variable_part vs) (variable_part v)
      (contains-map variable_part vs v i)

  -- a name that is used and defined is still defined
  pub still-defined : (vs : List (Variable S)) (n : Bytes) → Contains names n
      → Contains (names_of (map variable_part vs)) n
      → Contains (names_of (map variable_part (definitions_used names vs))) n
  still-defined vs n used i =
      let v = definition-of vs n i in
      let kept : keeps v.0 ≡ true = ap (is_one_of names) v.2 ∙ one-of names n used in
      subst (Contains (names_of (map variable_part (definitions_used names vs)))) v.2
      (name-in (definitions_used names vs) (without_directives v.0) (used-in vs v.0 v.1 kept))

  -- a name that is still defined is used
  pub defined-is-used : (vs : List (Variable S)) (n : Bytes)
      → Contains (names_of (map variable_part (definitions_used names vs))) n → Contains names n
  defined-is-used vs n i =
      let w = definition-of (definitions_used names vs) n i in
      let v = used-from vs w.0 w.1 in
      subst (Contains names) (ap (λ (x : Variable S). x.0.item) v.2 ∙ w.2)
      (among names v.0.0.item v.3)
