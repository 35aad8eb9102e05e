-- What holds where rules find no fault.
use Rattle.std.proofs.Common.{◌≡◌, ◌↔◌, ◌⊎◌, inl, inr, ℕ, ◌≤◌, Bool, true, false, not, cond, ltb, ◌&&◌, List, [], ◌∷◌, ◌++◌, Option, Some, None, length, map, refl, sym, ap, subst, ◌∙◌, arith}
use Rattle.std.specs.List.{All, AllByRecursion as Each, Contains, IsDistinct, cons_option, filter, filter_map, flat_map}
use Rattle.std.specs.Option.{IfSome, is_some, option_map, option_to_list}
use Rattle.std.specs.Str.{bytes_eq}
use Rattle.std.proofs.lemmas.Bool.{le-ltb, ltb-false}
use Rattle.std.proofs.lemmas.List.Elements.{Contains-append_cases, Contains-append_left, Contains-append_right}
use Rattle.graphql_text.specs.declared.position.SourcePosition.{SourcePosition}
use Rattle.graphql_names.specs.Names.{Bytes, is_one_of, named}
use Rattle.graphql_schema.specs.declared.meta.MetaType.{MetaType}
use Rattle.graphql_occurrences.specs.Parts.{InputPlace, Use, VariablePart}
use Rattle.graphql_rules_document.specs.Reached.{IsReached, reached, uses_from}
use Rattle.graphql_rules_document.specs.Scopes.{FragmentScope, OperationScope}
use Rattle.graphql_rules_document.proofs.LeastLemmas.{each_at, each_from, each_in, each_weaker, in_self, reached_is}
use Rattle.graphql_rule_errors.specs.Places.{error_if}
use Rattle.graphql_rule_errors.specs.Repeats.{Mention, repeats}
use Rattle.graphql_rule_errors.proofs.NoFaultLemmas.{no_error, none_told, none_unless}
use Rattle.graphql_rule_errors.proofs.RepeatLemmas.{no_repeats, no_repeats_of}
use Rattle.graphql_rules_document.specs.LoneAnonymousOperation.{anonymous_among, lone_anonymous_operation_faults}
use Rattle.graphql_rules_document.specs.NoUndefinedVariables.{undefined_in, undefined_use, no_undefined_variables_faults}
use Rattle.graphql_rules_document.specs.NoUnusedFragments.{no_unused_fragments_faults, unused_fragment}
use Rattle.graphql_rules_document.specs.NoUnusedVariables.{unused_in, unused_variable, no_unused_variables_faults}
use Rattle.graphql_rules_document.specs.UniqueFragmentNames.{fragment_mention, unique_fragment_names_faults}
use Rattle.graphql_rules_document.specs.UniqueOperationNames.{operation_mention, unique_operation_names_faults}
use Rattle.graphql_rules_document.specs.UniqueVariableNames.{unique_variable_names_faults, variable_mention}
use Rattle.graphql_rules_document.specs.VariablesInAllowedPosition.{disallowed_at, disallowed_by, disallowed_in, disallowed_use, variables_in_allowed_position_faults, is_allowed}

stands_among : (names : List Bytes) (name : Bytes) → (is_one_of names name ≡ true) ↔ Contains names name
stands_among names name = (
  λ h. each_in (Contains names) names name (each_from (Contains names) names (λ n there. there)) h,
  λ there. each_at (λ n. is_one_of names n ≡ true) names name (in_self names) there,
)

-- ---- names

pub distinct_fragments : (fragments : List FragmentScope) → (unique_fragment_names_faults fragments ≡ []) ↔ IsDistinct bytes_eq (map (λ f. f.name) fragments)
distinct_fragments = no_repeats_of fragment_mention

abbrev names_in : List Mention → List Bytes
names_in = map (λ m. m.name)

abbrev mentioned : SourcePosition → Bytes → Mention
mentioned place name = record { name = name; place = place }

name_told : (name : Option Bytes) (place : SourcePosition) (others : List Mention) → names_in (option_to_list (option_map (mentioned place) name) ++ others) ≡ cons_option name (names_in others)
name_told None place others = refl
name_told (Some n) place others = refl

-- ---- operations

stands_alone : (name : Option Bytes) (count : ℕ) (at : List SourcePosition) → (error_if (not (is_some name) && ltb 1 count) at ≡ []) ↔ (name ≡ None → count ≤ 1)
stands_alone None count at = (λ h e. ltb-false 1 count (no_error (ltb 1 count) at h), λ h. ap (λ b. error_if b at) (le-ltb 1 count (h refl)))
stands_alone (Some n) count at = (λ h e. cc, λ h. refl)

-- ---- uses in the fragments that pass a test

module _ (test : FragmentScope → Bool) (u : Use) where
  abbrev uses_there : List FragmentScope → List Use
  uses_there fragments = flat_map (λ f. f.uses) (filter test fragments)

  abbrev Stands : List FragmentScope → Type 0
  Stands fragments = (f : FragmentScope) × Contains fragments f × (test f ≡ true) × Contains f.uses u

  later : (f : FragmentScope) (fragments : List FragmentScope) → Stands fragments → Stands (f ∷ fragments)
  later f fragments s = (s.0, Contains-append_right (f ∷ []) fragments s.0 s.1, s.2, s.3)

  stands_in : (fragments : List FragmentScope) → Contains (uses_there fragments) u → Stands fragments
  stands_in [] c = absurd (omega (arith, c.1))
  stands_in (f ∷ fragments) c = either (test f) refl c (stands_in fragments)
    where
      either : (b : Bool) → test f ≡ b → Contains (flat_map (λ g. g.uses) (cond b (f ∷ filter test fragments) (filter test fragments))) u
          → (Contains (uses_there fragments) u → Stands fragments) → Stands (f ∷ fragments)
      either true passes c others = elim (Contains-append_cases f.uses (uses_there fragments) u c) [
        | inl h ↦ (f, (0, omega arith, refl), passes, h)
        | inr h ↦ later f fragments (others h)
      ]
      either false fails c others = later f fragments (others c)

  kept : (b : Bool) (f : FragmentScope) (rest : List FragmentScope) → Contains (flat_map (λ g. g.uses) rest) u → Contains (flat_map (λ g. g.uses) (cond b (f ∷ rest) rest)) u
  kept true f rest c = Contains-append_right f.uses (flat_map (λ g. g.uses) rest) u c
  kept false f rest c = c

  abbrev IsThere : List FragmentScope → FragmentScope → Type 0
  IsThere fragments f = test f ≡ true → Contains f.uses u → Contains (uses_there fragments) u

  are_there : (fragments : List FragmentScope) → Each (IsThere fragments) fragments
  are_there [] = tt
  are_there (f ∷ fragments) = (
    λ passes c. subst (λ b. Contains (flat_map (λ g. g.uses) (cond b (f ∷ filter test fragments) (filter test fragments))) u) (sym passes)
        (Contains-append_left f.uses (uses_there fragments) u c),
    each_weaker (IsThere fragments) (IsThere (f ∷ fragments)) (λ g h passes c. kept (test f) f (filter test fragments) (h passes c)) fragments (are_there fragments),
  )

module _ {S : Type 0} where
  names_told : (operations : List (OperationScope S)) → names_in (flat_map operation_mention operations) ≡ filter_map (λ o. o.name) operations
  names_told [] = refl
  names_told (o ∷ operations) = name_told o.name o.place (flat_map operation_mention operations) ∙ ap (cons_option o.name) (names_told operations)

  pub distinct_operations : (operations : List (OperationScope S)) → (unique_operation_names_faults operations ≡ []) ↔ IsDistinct bytes_eq (filter_map (λ o. o.name) operations)
  distinct_operations operations =
      subst (λ names. (unique_operation_names_faults operations ≡ []) ↔ IsDistinct bytes_eq names) (names_told operations) (no_repeats (flat_map operation_mention operations))

  pub distinct_variables : (operations : List (OperationScope S)) → (unique_variable_names_faults operations ≡ []) ↔ All (λ o. IsDistinct bytes_eq (map (λ v. v.name.item) o.defined)) operations
  distinct_variables = none_told (λ o. repeats (map variable_mention o.defined)) (λ o. IsDistinct bytes_eq (map (λ v. v.name.item) o.defined)) (λ o. no_repeats_of variable_mention o.defined)

  pub anonymous_alone : (operations : List (OperationScope S)) → (lone_anonymous_operation_faults operations ≡ []) ↔ All (λ o. o.name ≡ None → length operations ≡ 1) operations
  anonymous_alone operations =
      let count = length operations in
      let each = none_told (anonymous_among count) (λ o. o.name ≡ None → count ≤ 1) (λ o. stands_alone o.name count (o.place ∷ [])) operations in (
        λ h k d within e. omega (arith, within, each.0 h k d within e),
        λ h. each.1 (λ k d within e. omega (arith, h k d within e)),
      )

  -- ---- what is reached

  pub all_reached : (operations : List (OperationScope S)) (fragments : List FragmentScope)
      → (no_unused_fragments_faults operations fragments ≡ []) ↔ All (λ f. IsReached fragments (flat_map (λ o. o.spreads) operations) f.name) fragments
  all_reached operations fragments =
      let spreads = flat_map (λ o. o.spreads) operations in
      none_told (unused_fragment (reached fragments spreads)) (λ f. IsReached fragments spreads f.name)
      (λ f. none_unless (is_one_of (reached fragments spreads) f.name) (f.place ∷ []) (IsReached fragments spreads f.name) (reached_is fragments spreads f.name)) fragments

  pub uses_reached : (fragments : List FragmentScope) (o : OperationScope S) (u : Use)
      → Contains (uses_from fragments o) u ↔ (Contains o.uses u ⊎ ((f : FragmentScope) × Contains fragments f × IsReached fragments o.spreads f.name × Contains f.uses u))
  uses_reached fragments o u =
      let test : FragmentScope → Bool = λ f. is_one_of (reached fragments o.spreads) f.name in
      let below = flat_map (λ f. f.uses) (filter test fragments) in (
        λ c. elim (Contains-append_cases o.uses below u c) [
          | inl h ↦ inl h
          | inr h ↦ (let s = stands_in test u fragments h in inr (s.0, s.1, (reached_is fragments o.spreads s.0.name).0 s.2, s.3))
        ],
        elim [
          | inl h ↦ Contains-append_left o.uses below u h
          | inr s ↦ Contains-append_right o.uses below u (each_at (IsThere test u fragments) fragments s.0 (are_there test u fragments) s.1 ((reached_is fragments o.spreads s.0.name).1 s.2) s.3)
        ],
      )

  -- ---- variables

  pub uses_defined : (operations : List (OperationScope S)) (fragments : List FragmentScope)
      → (no_undefined_variables_faults operations fragments ≡ []) ↔ All (λ o. All (λ u. Contains (map (λ v. v.name.item) o.defined) u.name) (uses_from fragments o)) operations
  uses_defined operations fragments =
      none_told (undefined_in fragments) (λ o. All (λ u. Contains (map (λ v. v.name.item) o.defined) u.name) (uses_from fragments o))
      (λ o. let names = map (λ v. v.name.item) o.defined in
      none_told (undefined_use o) (λ u. Contains names u.name)
      (λ u. none_unless (is_one_of names u.name) (u.place ∷ o.place ∷ []) (Contains names u.name) (stands_among names u.name)) (uses_from fragments o))
      operations

  pub variables_used : (operations : List (OperationScope S)) (fragments : List FragmentScope)
      → (no_unused_variables_faults operations fragments ≡ []) ↔ All (λ o. All (λ v. Contains (map (λ u. u.name) (uses_from fragments o)) v.name.item) o.defined) operations
  variables_used operations fragments =
      none_told (unused_in fragments) (λ o. All (λ v. Contains (map (λ u. u.name) (uses_from fragments o)) v.name.item) o.defined)
      (λ o. let names = map (λ u. u.name) (uses_from fragments o) in
      none_told (unused_variable names) (λ v. Contains names v.name.item)
      (λ v. none_unless (is_one_of names v.name.item) (v.name.span.start ∷ []) (Contains names v.name.item) (stands_among names v.name.item)) o.defined)
      operations

module _ {S C : Type 0} (types : List (MetaType S C)) where
  abbrev IsAllowedAt : VariablePart S → InputPlace → Type 0
  IsAllowedAt v p = is_allowed types v p ≡ true

  allowed_at : (v : VariablePart S) (u : Use) (at : Option InputPlace) → (disallowed_at types v u at ≡ []) ↔ IfSome at (IsAllowedAt v)
  allowed_at v u None = (λ h. tt, λ h. refl)
  allowed_at v u (Some p) = none_unless (is_allowed types v p) (v.name.span.start ∷ u.place ∷ []) (IsAllowedAt v p) (λ h. h, λ h. h)

  allowed_by : (found : Option (VariablePart S)) (u : Use) → (disallowed_by types found u ≡ []) ↔ IfSome found (λ v. IfSome u.at (IsAllowedAt v))
  allowed_by None u = (λ h. tt, λ h. refl)
  allowed_by (Some v) u = allowed_at v u u.at

  pub uses_allowed : (operations : List (OperationScope S)) (fragments : List FragmentScope)
      → (variables_in_allowed_position_faults types operations fragments ≡ [])
      ↔ All (λ o. All (λ u. IfSome (named (λ v. v.name.item) o.defined u.name) (λ v. IfSome u.at (λ p. is_allowed types v p ≡ true))) (uses_from fragments o)) operations
  uses_allowed operations fragments =
      none_told (disallowed_in types fragments) (λ o. All (λ u. IfSome (named (λ v. v.name.item) o.defined u.name) (λ v. IfSome u.at (IsAllowedAt v))) (uses_from fragments o))
      (λ o. none_told (disallowed_use types o) (λ u. IfSome (named (λ v. v.name.item) o.defined u.name) (λ v. IfSome u.at (IsAllowedAt v)))
      (λ u. allowed_by (named (λ v. v.name.item) o.defined u.name) u) (uses_from fragments o))
      operations
