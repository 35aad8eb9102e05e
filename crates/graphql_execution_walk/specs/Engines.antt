-- What evaluation asks, of a request and a resolver (GraphQL October 2021, 6.4 Executing Fields).
use Rattle.std.specs.Prelude.{Bool, List, Option}
use Rattle.graphql_scalars.specs.ScalarAnswers.{ScalarAnswer}
use Rattle.graphql_names.specs.Names.{Bytes}
use Rattle.graphql_values.specs.declared.input_value.InputValue.{InputValue}
use Rattle.graphql_schema.specs.declared.meta.MetaType.{MetaType}
use Rattle.graphql_schema.specs.Subtypes.{is_named_subtype}
use Rattle.graphql_arguments.specs.ArgumentValues.{Given, argument_values}
use Rattle.graphql_written_out.specs.FinalVariables.{value_in}
use Rattle.graphql_written_out.specs.Conditions.{left_out}
use Rattle.graphql_written_out.specs.Trees.{Head}
use Rattle.graphql_collected.specs.declared.request.Request.{Request}
use Rattle.graphql_schema.specs.declared.schema.SchemaType.{SchemaType}
use Rattle.graphql_semantics.specs.Engines.{Engine}
pub use Rattle.graphql_execution_walk.specs.Asked.{Resolves}
use Rattle.graphql_execution_walk.specs.Asked.{asked_answer, asked_type}
use Rattle.graphql_execution_walk.specs.declared.asked.Asked.{Asked}
use Rattle.graphql_execution_walk.specs.FieldDeclarations.{declared_type, declared_arguments}
use Rattle.graphql_execution_walk.specs.FieldDeclarations.{is_leaf_named, is_possible_named}

module _ {S C : Type 0} where
  -- the argument values of an object type's field; `given`: the final values of variables
  abbrev pub arguments_over : List (MetaType S C) → (Bytes → Option (InputValue S)) → Bytes → Head S
      → Given S
  arguments_over types given object head =
      argument_values given (declared_arguments types object head.name) head.arguments

  abbrev pub arguments_given : Request S C → Bytes → Head S → Given S
  arguments_given request = arguments_over request.schema.now.types (value_in request.variables)

module _ {S C N : Type 0} where
  -- `of_text`, `of_bool`, `answer`: of the scalars; `given`: the final values of variables;
  -- `type_of`, `resolves`: of the resolver, over its context
  unfoldable pub engine_over : (Bytes → S) → (Bool → S) → (S → ScalarAnswer) → SchemaType S C
      → (Bytes → Option (InputValue S)) → (N → Bytes) → Resolves S N → Engine S (Asked S N C)
  engine_over of_text of_bool answer schema given type_of resolves = record {
    drops = left_out answer given;
    is_below = is_named_subtype schema.types;
    declared = declared_type schema.types;
    is_leaf = is_leaf_named schema.types;
    is_possible = is_possible_named schema.types;
    arguments = arguments_over schema.types given;
    concrete = asked_type type_of;
    answer = asked_answer of_text of_bool answer schema resolves;
  }

  -- the same, of a request
  abbrev pub engine_of : (Bytes → S) → (Bool → S) → (S → ScalarAnswer) → Request S C
      → (N → Bytes) → Resolves S N → Engine S (Asked S N C)
  engine_of of_text of_bool answer request =
      engine_over of_text of_bool answer request.schema.now (value_in request.variables)
