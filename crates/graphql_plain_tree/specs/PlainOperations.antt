-- Plain operations: one operation with its fragments written out, and with the variables that it
-- still uses (GraphQL October 2021, 2.3 Operations, 2.10 Variables).
use Rattle.std.specs.Prelude.{Bool, List, [], ◌++◌, map, Option, None}
use Rattle.std.specs.List.{filter, flat_map}
use Rattle.std.specs.Option.{option_map}
use Rattle.graphql_names.specs.Names.{Bytes, is_one_of}
use Rattle.graphql_scalars.specs.ScalarAnswers.{ScalarAnswer}
use Rattle.graphql_values.specs.Variables.{names_of_variables as variables_of}
use Rattle.graphql_values.specs.declared.input_value.InputValue.{InputValue}
use Rattle.graphql_tree.specs.Arguments.{Argument}
use Rattle.graphql_tree.specs.Documents.{variables_in}
use Rattle.graphql_tree.specs.Variables.{Variable}
use Rattle.graphql_tree.specs.declared.document.Fragment.{Fragment}
use Rattle.graphql_tree.specs.declared.document.Operation.{Operation}
use Rattle.graphql_tree.specs.declared.document.OperationType.{OperationType}
use Rattle.graphql_written_out.specs.Conditions.{left_out}
use Rattle.graphql_written_out.specs.Trees.{Tree, none, field, inline}
use Rattle.graphql_written_out.specs.Written.{written}
use Rattle.graphql_plain_tree.specs.Plain.{plain}
use Rattle.graphql_plain_tree.specs.StandIns.{skip_true}

-- an operation with a plain set and the variables that it still uses
pub record PlainOperation (S : Type 0) : Type 0 where
  pub operation_type : OperationType
  pub name : Option Bytes
  -- the definitions of its variables, without directives
  pub variables : List (Variable S)
  pub set : Tree S

module _ {S : Type 0} where
  -- the names of the variables in the values of arguments
  abbrev pub variables_given : List (Argument S) → List Bytes
  variables_given = flat_map (λ a. variables_of a.1.item)

  -- the names of the variables that the fields of a set use, at every depth
  abbrev pub variables_used : Tree S → List Bytes
  variables_used none = []
  variables_used (field head directives below rest) =
      variables_given head.arguments ++ (variables_used below ++ variables_used rest)
  variables_used (inline on directives below rest) = variables_used below ++ variables_used rest

  -- a definition without its directives
  abbrev pub without_directives : Variable S → Variable S
  without_directives v = (
    v.0,
    record { var_type = v.1.var_type; default_value = v.1.default_value; directives = None },
  )

  -- the definitions of the variables of these names, in order
  abbrev pub definitions_used : List Bytes → List (Variable S) → List (Variable S)
  definitions_used names definitions =
      map without_directives (filter (λ v. is_one_of names v.0.item) definitions)

  -- the operation of a plain set, with those of these definitions that the set uses
  abbrev pub operation_with : OperationType → Option Bytes → List (Variable S) → Tree S
      → PlainOperation S
  operation_with type name definitions set =
      record {
        operation_type = type;
        name = name;
        variables = definitions_used (variables_used set) definitions;
        set = set;
      }

-- `answer`: what a scalar answers; `of_bool`: the scalar of a boolean; `given`: the final values of
-- the variables
module _ {S : Type 0} (answer : S → ScalarAnswer) (of_bool : Bool → S)
    (given : Bytes → Option (InputValue S)) where
  -- the plain set of a set that is written out
  abbrev pub plain_by : Tree S → Tree S
  plain_by = plain (left_out answer given) (skip_true of_bool)

  -- the plain operation of an operation whose spreads mean these fragments
  abbrev pub plain_operation : List (Fragment S) → Operation S → PlainOperation S
  plain_operation fragments o =
      operation_with o.operation_type (option_map (λ n. n.item) o.name)
      (variables_in o.variable_definitions) (plain_by (written fragments o.selection_set))
