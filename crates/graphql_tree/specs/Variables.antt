-- The variables of an operation (GraphQL October 2021, 2.10 Variables).
use Rattle.std.specs.Prelude.{ℕ, List}
use Rattle.graphql_values.specs.InputValues.{Placed}
use Rattle.graphql_tree.specs.declared.variable.VariableDefinition.{VariableDefinition}

-- a name, at its place, and what is said of it
abbrev pub Variable : Type 0 → Type 0
Variable S = Placed (List ℕ) × VariableDefinition S
