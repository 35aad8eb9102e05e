-- A request has one answer.
use Rattle.std.proofs.Common.{◌≡◌, List, Option, ap, ◌∙◌, sym}
use Rattle.std.specs.declared.cmp.Ordering.{Ordering}
use Rattle.graphql_names.specs.Names.{Bytes}
use Rattle.graphql_values.specs.InputValues.{Placed}
use Rattle.graphql_tree.specs.declared.document.Definition.{Definition}
use Rattle.graphql_tree.specs.declared.document.Operation.{Operation}
use Rattle.graphql_tree.specs.declared.document.OperationType.{OperationType}
use Rattle.graphql_requests.proofs.Exclusive.{from-ok, one-executed}
use Rattle.graphql_requests.specs.Operations.{mutation_root}
use Rattle.graphql_schema.specs.Scalars.{Scalars}
use Rattle.graphql_executor.specs.Answered.{Asking, IsAnswered}
use Rattle.graphql_executor.specs.Executed.{data_of, runs}
use Rattle.graphql_executor.specs.Resolvers.{Resolver}
use Rattle.graphql_output_values.specs.declared.value.Value.{Value}
use Rattle.graphql_field_results.specs.declared.execution_error.ExecutionError.{ExecutionError}

module _ {S C N X : Type 0} (s : Scalars S C) (a : Asking S C) (r : Resolver S N X) where
  -- of two answers that the contract lets stand the data and the contexts after are the same
  pub one-answer : (cmp : ExecutionError S → ExecutionError S → Ordering)
      → (c one_after other_after : X) (one other : Value S) (errors others : List (ExecutionError S))
      → IsAnswered s a r cmp c one errors one_after → IsAnswered s a r cmp c other others other_after
      → (one ≡ other) × (one_after ≡ other_after)
  one-answer cmp c one_after other_after one other errors others x y =
      let both = one-executed s a x.document y.document x.operation y.operation x.executable y.executable in
      let type-of : Placed (Operation S) → OperationType = λ o. o.item.operation_type in
      let roots-same = ap (λ o. mutation_root a.schema.mutation (type-of o)) both.1 in
      let roots : y.yields.root ≡ x.yields.root =
      ap (from-ok x.yields.root) (sym y.yields.served ∙ roots-same ∙ x.yields.served) in
      let by-document = ap (λ (d : List (Definition S)). runs s a.schema r d a.given y.operation.item y.yields.root c) both.0 in
      let by-operation = ap (λ (o : Placed (Operation S)). runs s a.schema r x.document a.given o.item y.yields.root c) both.1 in
      let by-root = ap (λ (root : Option Bytes). runs s a.schema r x.document a.given x.operation.item root c) roots in
      let run-same = by-document ∙ by-operation ∙ by-root in (
        x.yields.responds.response.is ∙ sym (y.yields.responds.response.is ∙ ap (λ run. data_of run.outcome) run-same),
        x.yields.responds.after ∙ sym (y.yields.responds.after ∙ ap (λ run. run.after) run-same),
      )
