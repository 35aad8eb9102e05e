-- What holds of operations and fragments exactly where a rule finds no fault, and laws of what is
-- reached and of what ends.
use Rattle.std.specs.Prelude.{◌≡◌, ◌↔◌, ◌⊎◌, ℕ, true, List, [], length, map, None, IfSome}
use Rattle.std.specs.List.{All, Contains, IsDistinct, filter_map, flat_map}
use Rattle.std.specs.Str.{bytes_eq}
use Rattle.graphql_names.specs.Names.{Bytes, named}
use Rattle.graphql_schema.specs.declared.meta.MetaType.{MetaType}
use Rattle.graphql_occurrences.specs.Parts.{Use}
use Rattle.graphql_rules_document.specs.Reached.{IsReached, uses_from}
use Rattle.graphql_rules_document.specs.Scopes.{FragmentScope, OperationScope}
use Rattle.graphql_rules_document.specs.Ends.{EndsWithin, IsRanking}
use Rattle.graphql_rules_document.specs.LoneAnonymousOperation.{lone_anonymous_operation_faults}
use Rattle.graphql_rules_document.specs.NoFragmentCycles.{no_fragment_cycles_faults}
use Rattle.graphql_rules_document.specs.NoUndefinedVariables.{no_undefined_variables_faults}
use Rattle.graphql_rules_document.specs.NoUnusedFragments.{no_unused_fragments_faults}
use Rattle.graphql_rules_document.specs.NoUnusedVariables.{no_unused_variables_faults}
use Rattle.graphql_rules_document.specs.UniqueFragmentNames.{unique_fragment_names_faults}
use Rattle.graphql_rules_document.specs.UniqueOperationNames.{unique_operation_names_faults}
use Rattle.graphql_rules_document.specs.UniqueVariableNames.{unique_variable_names_faults}
use Rattle.graphql_rules_document.specs.VariablesInAllowedPosition.{variables_in_allowed_position_faults}
use Rattle.graphql_rules_document.specs.VariablesInAllowedPosition.{is_allowed}

-- 5.5.2.2 Fragment Spreads Must Not Form Cycles: no fragment reaches itself
abbrev pub NoneReachesItself : Type 0
NoneReachesItself = (fragments : List FragmentScope)
    → (no_fragment_cycles_faults fragments ≡ [])
    ↔ All (λ f. IsReached fragments f.spreads f.name → ⊥) fragments

-- the same: ranks fall from a fragment to what it spreads
abbrev pub FragmentsAreRanked : Type 0
FragmentsAreRanked = (fragments : List FragmentScope)
    → (no_fragment_cycles_faults fragments ≡ []) ↔ ((rank : Bytes → ℕ) × IsRanking fragments rank)

-- the same: what is spread ends within as many levels as there are fragments
abbrev pub FragmentsEnd : Type 0
FragmentsEnd = (fragments : List FragmentScope)
    → (no_fragment_cycles_faults fragments ≡ [])
    ↔ ((name : Bytes) → EndsWithin fragments (length fragments) name)

-- 5.5.1.1 Fragment Name Uniqueness
abbrev pub FragmentNamesAreDistinct : Type 0
FragmentNamesAreDistinct =
    (fragments : List FragmentScope)
    → (unique_fragment_names_faults fragments ≡ [])
    ↔ IsDistinct bytes_eq (map (λ f. f.name) fragments)

module _ (S : Type 0) where
  -- 5.2.1.1 Operation Name Uniqueness
  abbrev pub OperationNamesAreDistinct : Type 0
  OperationNamesAreDistinct =
      (operations : List (OperationScope S))
      → (unique_operation_names_faults operations ≡ [])
      ↔ IsDistinct bytes_eq (filter_map (λ o. o.name) operations)

  -- 5.8.1 Variable Uniqueness
  abbrev pub VariableNamesAreDistinct : Type 0
  VariableNamesAreDistinct =
      (operations : List (OperationScope S))
      → (unique_variable_names_faults operations ≡ [])
      ↔ All (λ o. IsDistinct bytes_eq (map (λ v. v.name.item) o.defined)) operations

  -- 5.2.2.1 Lone Anonymous Operation
  abbrev pub AnonymousStandsAlone : Type 0
  AnonymousStandsAlone =
      (operations : List (OperationScope S))
      → (lone_anonymous_operation_faults operations ≡ [])
      ↔ All (λ o. o.name ≡ None → length operations ≡ 1) operations

  -- 5.5.1.4 Fragments Must Be Used
  abbrev pub AllAreReached : Type 0
  AllAreReached =
      (operations : List (OperationScope S)) (fragments : List FragmentScope)
      → (no_unused_fragments_faults operations fragments ≡ [])
      ↔ All (λ f. IsReached fragments (flat_map (λ o. o.spreads) operations) f.name) fragments

  -- the uses that an operation reaches: its own, and those of the fragments that it reaches
  abbrev pub UsesAreReached : Type 0
  UsesAreReached =
      (fragments : List FragmentScope) (o : OperationScope S) (u : Use)
      → Contains (uses_from fragments o) u
      ↔ (Contains o.uses u ⊎ ((f : FragmentScope)
      × Contains fragments f
      × IsReached fragments o.spreads f.name
      × Contains f.uses u))

  -- 5.8.3 All Variable Uses Defined
  abbrev pub UsesAreDefined : Type 0
  UsesAreDefined =
      (operations : List (OperationScope S)) (fragments : List FragmentScope)
      → (no_undefined_variables_faults operations fragments ≡ []) ↔ All (λ o. All (λ u.
      Contains (map (λ v. v.name.item) o.defined) u.name) (uses_from fragments o)) operations

  -- 5.8.4 All Variables Used
  abbrev pub VariablesAreUsed : Type 0
  VariablesAreUsed =
      (operations : List (OperationScope S)) (fragments : List FragmentScope)
      → (no_unused_variables_faults operations fragments ≡ []) ↔ All (λ o. All (λ v.
      Contains (map (λ u. u.name) (uses_from fragments o)) v.name.item) o.defined) operations

module _ (S C : Type 0) where
  -- 5.8.5 All Variable Usages Are Allowed, where there is a definition and a known place
  abbrev pub UsesAreAllowed : Type 0
  UsesAreAllowed =
      (types : List (MetaType S C)) (operations : List (OperationScope S))
      (fragments : List FragmentScope)
      → (variables_in_allowed_position_faults types operations fragments ≡ [])
      ↔ All (λ o. All (λ u. IfSome (named (λ v. v.name.item) o.defined u.name)
      (λ v. IfSome u.at (λ p. is_allowed types v p ≡ true))) (uses_from fragments o)) operations
