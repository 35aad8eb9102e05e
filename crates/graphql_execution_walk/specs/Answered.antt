-- What a resolver answers, want of memory aside (GraphQL October 2021, 6.4.2 Value Resolution).
pub use Rattle.graphql_arguments.specs.SameArguments.{SameArguments}
pub use Rattle.graphql_field_results.specs.Answered.{Answered, TellsInDistinctKeys}
