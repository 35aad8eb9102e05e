-- When a document is valid, for what stands on requests (GraphQL October 2021, 5 Validation).
pub use Rattle.graphql_validation.specs.Valid.{HasNoFault}
