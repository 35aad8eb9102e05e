-- Operations that differ in places alone have variables with the same truth values.
use Rattle.std.proofs.Common.{◌≡◌, sym, ◌∙◌, ap, List, Option}
use Rattle.graphql_names.specs.Names.{Bytes}
use Rattle.graphql_scalars.specs.ScalarAnswers.{ScalarAnswer}
use Rattle.graphql_values.specs.declared.input_value.InputValue.{InputValue}
use Rattle.graphql_tree.specs.Documents.{variables_in}
use Rattle.graphql_tree.specs.Unlocated.{unlocated_operation}
use Rattle.graphql_tree.specs.Variables.{Variable}
use Rattle.graphql_tree.specs.declared.document.Operation.{Operation}
use Rattle.graphql_written_out.specs.FinalValues.{final_value}
use Rattle.graphql_moved.specs.Moved.{moved_operation}
use Rattle.graphql_moved.proofs.MovedConditions.{truth_in}
use Rattle.graphql_moved.proofs.Unlocated.{nowhere, operation-is, same}
use Rattle.graphql_moved.proofs.UnlocatedDefinitions.{finals-alike, unlocated_definitions, variables-alike}
use Rattle.graphql_moved.proofs.UnlocatedWritten.{truth-unlocated}

module _ {S : Type 0} where
  pub operations-same : (o p : Operation S)
      → moved_operation same nowhere o ≡ moved_operation same nowhere p
      → unlocated_operation o ≡ unlocated_operation p
  operations-same o p alike = (λ i. operation-is i o) ∙ alike ∙ sym (λ i. operation-is i p)

  pub variables-same : (o p : Operation S)
      → moved_operation same nowhere o ≡ moved_operation same nowhere p
      → unlocated_definitions (variables_in o.variable_definitions)
      ≡ unlocated_definitions (variables_in p.variable_definitions)
  variables-same o p alike = variables-alike o p (operations-same o p alike)

  pub truths-alike : (answer : S → ScalarAnswer) (given : Bytes → Option (InputValue S))
      (vs ws : List (Variable S)) → unlocated_definitions vs ≡ unlocated_definitions ws
      → (name : Bytes)
      → truth_in answer (final_value given vs name) ≡ truth_in answer (final_value given ws name)
  truths-alike answer given vs ws alike name =
      sym (truth-unlocated answer (final_value given vs name))
      ∙ ap (truth_in answer) (finals-alike given name vs ws alike)
      ∙ truth-unlocated answer (final_value given ws name)
