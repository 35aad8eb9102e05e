-- What a resolver answers and changes, by one word (GraphQL October 2021, 6.4.2 Value Resolution).
use Rattle.graphql_names.specs.Names.{Bytes}
use Rattle.graphql_execution_walk.specs.Engines.{Resolves}
use Rattle.graphql_mutation.specs.Mutations.{Changes}

-- of a resolver with nodes `N`, over contexts `X`
pub record Resolver (S N X : Type 0) : Type 0 where
  -- from where queries start
  pub root : N
  -- the object type of a node
  pub type_of : X → N → Bytes
  -- what is answered for a field of a node
  pub answer : X → Resolves S N
  -- what is answered for a field of a mutation's root, and the context after
  pub changes : Changes S N X
