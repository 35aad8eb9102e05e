-- Why a request is not executed, and what scalars mean, for what stands on execution (GraphQL
-- October 2021, 6.1 Executing Requests).
pub use Rattle.graphql_requests.specs.ErrorTexts.{error_text}
pub use Rattle.graphql_schema.specs.Scalars.{Scalars}
pub use Rattle.graphql_requests.specs.declared.graphql_error.GraphQLError.{GraphQLError}
pub use Rattle.graphql_requests.specs.declared.graphql_error.GraphQLError.TheVariants.{
  IsSubscription,
  Memory,
  MultipleOperationsProvided,
  NoMutationType,
  NoOperationProvided,
  NotSubscription,
  ParseError,
  UnknownOperationName,
  ValidationError,
}
