-- By what services answer, by one word (GraphQL October 2021, 6.1 Executing Requests).
use Rattle.std.specs.declared.cmp.Ordering.{Ordering}
use Rattle.graphql_field_results.specs.declared.execution_error.ExecutionError.{ExecutionError}
use Rattle.graphql_rule_errors.specs.declared.rule_error.RuleError.{RuleError}
use Rattle.graphql_executor.specs.Requests.{Scalars}
use Rattle.graphql_executor.specs.Resolvers.{Resolver}

-- of scalars `S`, of checks `C` of types, and of resolvers `R` with nodes `N`, over contexts `X`
pub record AnsweredBy (S C N X R : Type 0) : Type 1 where
  -- what the scalars mean
  pub scalars : Scalars S C
  -- how errors of rules are ordered
  pub by_rules : RuleError → RuleError → Ordering
  -- how errors of fields are ordered
  pub by_fields : ExecutionError S → ExecutionError S → Ordering
  -- what a resolver answers and changes
  pub resolving : R → Resolver S N X
