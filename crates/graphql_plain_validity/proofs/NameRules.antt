-- Rules on the names of operations and fragments.
use Rattle.std.proofs.Common.{◌≡◌, refl, Bool, [], ◌∷◌, Some, None}
use Rattle.graphql_scalars.specs.ScalarAnswers.{ScalarAnswer}
use Rattle.graphql_schema.specs.Declarations.{Declarations}
use Rattle.graphql_rules_document.specs.Scopes.{OperationScope, operation_scope}
use Rattle.graphql_rules_document.specs.LoneAnonymousOperation.{lone_anonymous_operation_faults}
use Rattle.graphql_rules_document.specs.UniqueOperationNames.{unique_operation_names_faults}
use Rattle.graphql_plain_validity.specs.RuleLaws.{HasOneOperation, OneOperationIsLeft}
use Rattle.graphql_plain_validity.proofs.OneOperation.{of-one}

module _ {S : Type 0} where
  lone-name : (o : OperationScope S) → unique_operation_names_faults (o ∷ []) ≡ []
  lone-name o =
      elim o.name as
      (λ n. unique_operation_names_faults (record o { name = n } ∷ []) ≡ []) [ None ↦ refl | Some n ↦ refl ]

  lone-anonymous : (o : OperationScope S) → lone_anonymous_operation_faults (o ∷ []) ≡ []
  lone-anonymous o =
      elim o.name as
      (λ n. lone_anonymous_operation_faults (record o { name = n } ∷ []) ≡ []) [
        | None ↦ refl
        | Some n ↦
            refl
      ]

module _ {S C : Type 0} (answer : S → ScalarAnswer) (of_bool : Bool → S)
    (schema : Declarations S C) where
  pub one-operation-is-left : OneOperationIsLeft answer of_bool schema
  one-operation-is-left document =
      of-one answer of_bool document (HasOneOperation schema) (λ x is same. record {
        unique_operation_names = lone-name (operation_scope schema x);
        lone_anonymous_operation = lone-anonymous (operation_scope schema x);
        unique_fragment_names = refl;
        no_unused_fragments = refl;
        no_fragment_cycles = refl;
      })
