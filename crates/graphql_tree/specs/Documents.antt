-- What is written between parentheses (GraphQL October 2021, 2.6 Arguments, 2.10 Variables).
use Rattle.std.specs.Prelude.{List, Option}
use Rattle.std.specs.Option.{option_map_or}
use Rattle.std.specs.Prelude.{[]}
use Rattle.graphql_tree.specs.Arguments.{Argument}
use Rattle.graphql_tree.specs.declared.directive.Arguments.{Arguments}
use Rattle.graphql_tree.specs.declared.variable.VariableDefinitions.{VariableDefinitions}
use Rattle.graphql_tree.specs.Variables.{Variable}
use Rattle.graphql_values.specs.InputValues.{Placed}

module _ {S : Type 0} where
  -- the arguments, if there are any
  abbrev pub arguments_in : Option (Placed (Arguments S)) → List (Argument S)
  arguments_in arguments = option_map_or (λ a. a.item.items) arguments []

  -- the definitions of variables, if there are any
  abbrev pub variables_in : Option (Placed (VariableDefinitions S)) → List (Variable S)
  variables_in variables = option_map_or (λ v. v.item.items) variables []
