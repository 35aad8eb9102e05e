-- What is answered to a request, and left of it, is that of each request that asks the same.
use Rattle.std.proofs.Common.{◌≡◌, List, Result, IfOk, IfErr, subst}
use Rattle.std.specs.declared.cmp.Ordering.{Ordering}
use Rattle.graphql_output_values.specs.declared.value.Value.{Value}
use Rattle.graphql_rule_errors.specs.declared.rule_error.RuleError.{RuleError}
use Rattle.graphql_field_results.specs.declared.execution_error.ExecutionError.{ExecutionError}
use Rattle.graphql_schema.specs.Scalars.{Scalars}
use Rattle.graphql_requests.specs.declared.graphql_error.GraphQLError.{GraphQLError}
use Rattle.graphql_executor.specs.Answered.{Asking, IsAnswered, IsRefused, LeftUnanswered}
use Rattle.graphql_executor.specs.Resolvers.{Resolver}

module _ {S C : Type 0} (s : Scalars S C) (one other : Asking S C) (same : one ≡ other)
    (answer : Result (Value S × List (ExecutionError S)) GraphQLError) where
  pub refused-alike : (cmp : RuleError → RuleError → Ordering) → IfErr answer (IsRefused s one cmp)
      → IfErr answer (IsRefused s other cmp)
  refused-alike cmp h = subst (λ a. IfErr answer (IsRefused s a cmp)) same h

  module _ {N X : Type 0} (r : Resolver S N X) (old new : X) where
    pub answered-alike : (cmp : ExecutionError S → ExecutionError S → Ordering)
        → IfOk answer (λ x. IsAnswered s one r cmp old x.0 x.1 new)
        → IfOk answer (λ x. IsAnswered s other r cmp old x.0 x.1 new)
    answered-alike cmp h = subst (λ a. IfOk answer (λ x. IsAnswered s a r cmp old x.0 x.1 new)) same h

    pub left-alike : IfErr answer (λ e. LeftUnanswered s one r e old new)
        → IfErr answer (λ e. LeftUnanswered s other r e old new)
    left-alike h = subst (λ a. IfErr answer (λ e. LeftUnanswered s a r e old new)) same h
