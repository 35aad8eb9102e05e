-- What is given to a field's arguments, and what a resolver asks of it (GraphQL October 2021, 6.4.1
-- Coercing Field Arguments).
pub use Rattle.graphql_resolvers.specs.Asked.{below, boolean, boolean_or_null, count, count_or_null}
pub use Rattle.graphql_resolvers.specs.Asked.{id, id_or_null, ids, ids_or_null, int, int_or_null}
pub use Rattle.graphql_resolvers.specs.Asked.{is_among, integers, integers_or_null, part}
pub use Rattle.graphql_resolvers.specs.Asked.{part_or_null, word, word_or_null, words}
pub use Rattle.graphql_resolvers.specs.Asked.{words_or_null}
pub use Rattle.graphql_resolvers.specs.Inputs.{Inputs, inputs_of}
pub use Rattle.graphql_resolvers.specs.Told.{given_to}
