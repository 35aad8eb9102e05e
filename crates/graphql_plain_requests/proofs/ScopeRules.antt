-- Rules on the operations and fragments of a document find as many faults in a document without its
-- places.
use Rattle.std.proofs.Common.{◌≡◌, refl, sym, ◌∙◌, ap, ◌&&◌, ◌||◌, not, nat_lt, cond, length, List, [], ◌∷◌, map, Option, Some, None}
use Rattle.std.specs.List.{flat_map}
use Rattle.std.specs.Option.{is_some, option_map}
use Rattle.std.proofs.lemmas.List.{length-map}
use Rattle.std.proofs.lemmas.Simd.{map-map}
use Rattle.graphql_names.specs.Names.{Bytes, is_one_of, named}
use Rattle.graphql_tree.specs.Unlocated.{unlocated_document}
use Rattle.graphql_tree.specs.declared.document.Definition.{Definition}
use Rattle.graphql_schema.specs.Declarations.{Declarations}
use Rattle.graphql_schema.specs.Subtypes.{is_subtype}
use Rattle.graphql_schema.specs.declared.meta.MetaType.{MetaType}
use Rattle.graphql_occurrences.specs.Parts.{InputPlace, Use, VariablePart}
use Rattle.graphql_occurrences.specs.Unlocated.{unlocated_variable_part}
use Rattle.graphql_rule_errors.specs.Places.{Places, error_if}
use Rattle.graphql_rule_errors.specs.Repeats.{repeats}
use Rattle.graphql_rules_document.specs.Reached.{reached, uses_from}
use Rattle.graphql_rules_document.specs.Scopes.{FragmentScope, OperationScope, Spread, fragment_scopes, operation_scopes}
use Rattle.graphql_rules_document.specs.LoneAnonymousOperation.{anonymous_among, lone_anonymous_operation_faults}
use Rattle.graphql_rules_document.specs.NoFragmentCycles.{cycle_at, cycles_in, no_fragment_cycles_faults}
use Rattle.graphql_rules_document.specs.NoUndefinedVariables.{undefined_in, undefined_use, no_undefined_variables_faults}
use Rattle.graphql_rules_document.specs.NoUnusedFragments.{no_unused_fragments_faults, unused_fragment}
use Rattle.graphql_rules_document.specs.NoUnusedVariables.{unused_in, unused_variable, no_unused_variables_faults}
use Rattle.graphql_rules_document.specs.UniqueFragmentNames.{fragment_mention, unique_fragment_names_faults}
use Rattle.graphql_rules_document.specs.UniqueOperationNames.{operation_mention, unique_operation_names_faults}
use Rattle.graphql_rules_document.specs.UniqueVariableNames.{unique_variable_names_faults, variable_mention}
use Rattle.graphql_rules_document.specs.VariablesInAllowedPosition.{disallowed_at, disallowed_by, disallowed_in, disallowed_use, variables_in_allowed_position_faults, is_allowed, with_null, without_null}
use Rattle.graphql_schema.specs.Types.{refuses_null}
use Rattle.graphql_moved.proofs.Unlocated.{nowhere}
use Rattle.graphql_plain_validity.proofs.AllowedUses.{same-default}
use Rattle.graphql_plain_requests.proofs.Erased.{unlocated_mention, each-erased, erase, error-erased, flat-mapped, named-mapped, none-erased, repeats-erased}
use Rattle.graphql_plain_requests.proofs.Scopes.{unlocated_fragment_scope, unlocated_operation_scope, unlocated_spread, unlocated_use, fragment-scopes, operation-scopes, reached-unlocated, uses-unlocated}

abbrev F : FragmentScope → FragmentScope
F = unlocated_fragment_scope

pub fragments-repeated : (fs : List FragmentScope) → unique_fragment_names_faults (map F fs)
    ≡ erase (unique_fragment_names_faults fs)
fragments-repeated fs =
    ap repeats (map-map fragment_mention F fs ∙ sym (map-map unlocated_mention fragment_mention fs))
    ∙ repeats-erased (map fragment_mention fs)

cycle-erased : (fs : List FragmentScope) (f : FragmentScope) (s : Spread)
    → cycle_at (map F fs) (F f) (unlocated_spread s) ≡ erase (cycle_at fs f s)
cycle-erased fs f s =
    ap (λ names. error_if (is_one_of names f.name) (nowhere s.place ∷ []))
    (reached-unlocated fs (s ∷ []))
    ∙ error-erased (is_one_of (reached fs (s ∷ [])) f.name) (s.place ∷ [])

pub cycles-erased : (fs : List FragmentScope) → no_fragment_cycles_faults (map F fs)
    ≡ erase (no_fragment_cycles_faults fs)
cycles-erased fs =
    each-erased F (cycles_in fs) (cycles_in (map F fs))
    (λ f. each-erased unlocated_spread (cycle_at fs f) (cycle_at (map F fs) (F f)) (cycle-erased fs f)
    f.spreads) fs

unused-erased : (names : List Bytes) (f : FragmentScope) → unused_fragment names (F f)
    ≡ erase (unused_fragment names f)
unused-erased names f = error-erased (not (is_one_of names f.name)) (f.place ∷ [])

module _ {S : Type 0} where
  abbrev O : OperationScope S → OperationScope S
  O = unlocated_operation_scope

  abbrev V : VariablePart S → VariablePart S
  V = unlocated_variable_part

  mention-unlocated : (o : OperationScope S) → operation_mention (O o)
      ≡ map unlocated_mention (operation_mention o)
  mention-unlocated o = at o.name
    where
      at : (n : Option Bytes) → operation_mention (record (O o) { name = n })
          ≡ map unlocated_mention (operation_mention (record o { name = n }))
      at None = refl
      at (Some n) = refl

  pub operations-repeated : (os : List (OperationScope S)) → unique_operation_names_faults (map O os)
      ≡ erase (unique_operation_names_faults os)
  operations-repeated os =
      ap repeats (flat-mapped O unlocated_mention operation_mention operation_mention mention-unlocated os)
      ∙ repeats-erased (flat_map operation_mention os)

  pub anonymous-erased : (os : List (OperationScope S)) → lone_anonymous_operation_faults (map O os)
      ≡ erase (lone_anonymous_operation_faults os)
  anonymous-erased os =
      ap (λ n. flat_map (anonymous_among n) (map O os)) (length-map os O)
      ∙ each-erased O (anonymous_among (length os)) (anonymous_among (length os))
      (λ o. error-erased (not (is_some o.name) && nat_lt 1 (length os)) (o.place ∷ [])) os

  pub variables-repeated : (os : List (OperationScope S)) → unique_variable_names_faults (map O os)
      ≡ erase (unique_variable_names_faults os)
  variables-repeated os =
      each-erased O (λ (o : OperationScope S). repeats (map variable_mention o.defined))
      (λ (o : OperationScope S). repeats (map variable_mention o.defined))
      (λ o. ap repeats (map-map variable_mention V o.defined
      ∙ sym (map-map unlocated_mention variable_mention o.defined))
      ∙ repeats-erased (map variable_mention o.defined)) os

  pub never-erased : (os : List (OperationScope S)) (fs : List FragmentScope)
      → no_unused_fragments_faults (map O os) (map F fs) ≡ erase (no_unused_fragments_faults os fs)
  never-erased os fs =
      let from = flat_map (λ (o : OperationScope S). o.spreads) os in
      (λ i. flat_map (unused_fragment (reached (map F fs)
      (flat-mapped O unlocated_spread (λ (o : OperationScope S). o.spreads) (λ (o : OperationScope S).
      o.spreads) (λ o. refl) os i))) (map F fs))
      ∙ ap (λ names. flat_map (unused_fragment names) (map F fs)) (reached-unlocated fs from)
      ∙ each-erased F (unused_fragment (reached fs from)) (unused_fragment (reached fs from))
      (unused-erased (reached fs from)) fs

  names-same : (vs : List (VariablePart S)) → map (λ (v : VariablePart S). v.name.item) (map V vs)
      ≡ map (λ v. v.name.item) vs
  names-same vs = map-map (λ (v : VariablePart S). v.name.item) V vs

  undefined-use-erased : (o : OperationScope S) (u : Use) → undefined_use (O o) (unlocated_use u)
      ≡ erase (undefined_use o u)
  undefined-use-erased o u =
      ap (λ names. error_if (not (is_one_of names u.name)) (nowhere u.place ∷ nowhere o.place ∷ []))
      (names-same o.defined)
      ∙ error-erased (not (is_one_of (map (λ (v : VariablePart S). v.name.item) o.defined) u.name))
      (u.place ∷ o.place ∷ [])

  pub undefined-erased : (os : List (OperationScope S)) (fs : List FragmentScope)
      → no_undefined_variables_faults (map O os) (map F fs) ≡ erase (no_undefined_variables_faults os fs)
  undefined-erased os fs =
      each-erased O (undefined_in fs) (undefined_in (map F fs))
      (λ o. ap (flat_map (undefined_use (O o))) (uses-unlocated fs o)
      ∙ each-erased unlocated_use (undefined_use o) (undefined_use (O o)) (undefined-use-erased o)
      (uses_from fs o)) os

  pub unused-variables-erased : (os : List (OperationScope S)) (fs : List FragmentScope)
      → no_unused_variables_faults (map O os) (map F fs) ≡ erase (no_unused_variables_faults os fs)
  unused-variables-erased os fs =
      each-erased O (unused_in fs) (unused_in (map F fs))
      (λ o. ap (λ names. flat_map (unused_variable names) (map V o.defined))
      (ap (map (λ (u : Use). u.name)) (uses-unlocated fs o)
      ∙ map-map (λ (u : Use). u.name) unlocated_use (uses_from fs o))
      ∙ each-erased V (unused_variable (map (λ (u : Use). u.name) (uses_from fs o)))
      (unused_variable (map (λ (u : Use). u.name) (uses_from fs o)))
      (λ v. error-erased (not (is_one_of (map (λ (u : Use). u.name) (uses_from fs o))
      v.name.item)) (v.name.span.start ∷ [])) o.defined) os

  -- ---- variables in allowed positions

  module _ {C : Type 0} (types : List (MetaType S C)) where
    allowed-same : (v : VariablePart S) (p : InputPlace) → is_allowed types (V v) p
        ≡ is_allowed types v p
    allowed-same v p =
        ap (λ b. cond p.is_only_field (is_subtype types v.type_of.item (without_null p.asked))
        (cond (refuses_null p.asked && not (refuses_null v.type_of.item))
        ((b || p.has_default) && is_subtype types v.type_of.item (with_null p.asked))
        (is_subtype types v.type_of.item p.asked)))
        (same-default v.default)

    at-erased : (v : VariablePart S) (u : Use) (o : Option InputPlace)
        → disallowed_at types (V v) (unlocated_use u) o ≡ erase (disallowed_at types v u o)
    at-erased v u None = refl
    at-erased v u (Some p) =
        ap (λ b. error_if (not b) (nowhere v.name.span.start ∷ nowhere u.place ∷ []))
        (allowed-same v p)
        ∙ error-erased (not (is_allowed types v p)) (v.name.span.start ∷ u.place ∷ [])

    by-erased : (o : Option (VariablePart S)) (u : Use)
        → disallowed_by types (option_map V o) (unlocated_use u) ≡ erase (disallowed_by types o u)
    by-erased None u = refl
    by-erased (Some v) u = at-erased v u u.at

    use-erased : (o : OperationScope S) (u : Use) → disallowed_use types (O o) (unlocated_use u)
        ≡ erase (disallowed_use types o u)
    use-erased o u =
        ap (λ v. disallowed_by types v (unlocated_use u))
        (named-mapped V (λ (v : VariablePart S). v.name.item) (λ (v : VariablePart S).
        v.name.item) (λ v. refl) o.defined u.name)
        ∙ by-erased (named (λ (v : VariablePart S). v.name.item) o.defined u.name) u

    pub disallowed-erased : (os : List (OperationScope S)) (fs : List FragmentScope)
        → variables_in_allowed_position_faults types (map O os) (map F fs)
        ≡ erase (variables_in_allowed_position_faults types os fs)
    disallowed-erased os fs =
        each-erased O (disallowed_in types fs) (disallowed_in types (map F fs))
        (λ o. ap (flat_map (disallowed_use types (O o))) (uses-unlocated fs o)
        ∙ each-erased unlocated_use (disallowed_use types o) (disallowed_use types (O o)) (use-erased o)
        (uses_from fs o)) os

-- ---- of documents that differ in places alone

module _ {S C : Type 0} (schema : Declarations S C) (document again : List (Definition S))
    (same : unlocated_document document ≡ unlocated_document again) where
  operations-same : map unlocated_operation_scope (operation_scopes schema document)
      ≡ map unlocated_operation_scope (operation_scopes schema again)
  operations-same = sym (operation-scopes schema document) ∙ ap (operation_scopes schema) same
      ∙ operation-scopes schema again

  fragments-same : map unlocated_fragment_scope (fragment_scopes schema document)
      ≡ map unlocated_fragment_scope (fragment_scopes schema again)
  fragments-same = sym (fragment-scopes schema document) ∙ ap (fragment_scopes schema) same
      ∙ fragment-scopes schema again

  -- a rule that is blind finds no fault in the one where it finds none in the other
  pub scopes-alike : (rule : List (OperationScope S) → List FragmentScope → Places)
      → ((os : List (OperationScope S)) (fs : List FragmentScope)
      → rule (map unlocated_operation_scope os) (map unlocated_fragment_scope fs) ≡ erase (rule os fs))
      → rule (operation_scopes schema document) (fragment_scopes schema document) ≡ []
      → rule (operation_scopes schema again) (fragment_scopes schema again) ≡ []
  scopes-alike rule blind silent =
      none-erased (rule (operation_scopes schema again) (fragment_scopes schema again))
      (sym (blind (operation_scopes schema again) (fragment_scopes schema again))
      ∙ (λ i. rule (sym operations-same i) (sym fragments-same i))
      ∙ blind (operation_scopes schema document) (fragment_scopes schema document)
      ∙ ap erase silent)
