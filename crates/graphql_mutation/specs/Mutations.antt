-- What a mutation asks, of a request and a resolver (GraphQL October 2021, 6.2.2 Mutation).
use Rattle.std.specs.Prelude.{Bool, Option, Result, is_some, if◌then◌else◌}
use Rattle.graphql_scalars.specs.ScalarAnswers.{ScalarAnswer}
use Rattle.graphql_names.specs.Names.{Bytes}
use Rattle.graphql_values.specs.declared.input_value.InputValue.{InputValue}
use Rattle.graphql_schema.specs.declared.schema.SchemaType.{SchemaType}
use Rattle.graphql_arguments.specs.ArgumentValues.{Given}
use Rattle.graphql_written_out.specs.FinalVariables.{value_in}
use Rattle.graphql_collected.specs.declared.request.Request.{Request}
use Rattle.graphql_field_results.specs.declared.field_error.FieldError.{FieldError}
use Rattle.graphql_field_results.specs.declared.resolved.Resolved.{Resolved}
use Rattle.graphql_execution_walk.specs.Asked.{map_answer, or_asked, told_of_itself}
use Rattle.graphql_execution_walk.specs.Engines.{Resolves, engine_over}
use Rattle.graphql_execution_walk.specs.declared.asked.Asked.{Asked}
use Rattle.graphql_execution_walk.specs.declared.asked.Asked.TheVariants as asked
use Rattle.graphql_mutation.specs.Serial.{Mutation, RootStep}

-- what a resolver does at a mutation's root: what it answers for a field by its argument values,
-- and the context after
pub record Changes (S N X : Type 0) : Type 0 where
  pub answer : X → Bytes → Given S → Result (Resolved S N) (FieldError S)
  pub after : X → Bytes → Given S → X

-- of what the root's object tells of itself no resolver is asked, and nothing changes
-- (4 Introspection)
-- `of_text`, `answer`: of the scalars
module _ {S C N X : Type 0} (of_text : Bytes → S) (answer : S → ScalarAnswer)
    (schema : SchemaType S C)
    (changes : Changes S N X) where
  abbrev pub told_first : X → Bytes → Bytes → Given S → RootStep S (Asked S N C) X
  told_first c object name given =
      let told = told_of_itself of_text answer schema object name given in
      record {
        answer = or_asked told (map_answer asked.Own (changes.answer c name given));
        after = if is_some told then c else changes.after c name given;
      }

module _ {S C N X : Type 0} where
  -- `of_text`, `of_bool`, `answer`: of the scalars; `given`: the final values of variables;
  -- `type_of`, `resolves`, `changes`: of the resolver
  abbrev pub mutation_over : (Bytes → S) → (Bool → S) → (S → ScalarAnswer) → SchemaType S C
      → (Bytes → Option (InputValue S)) → (X → N → Bytes) → (X → Resolves S N) → Changes S N X
      → Mutation S (Asked S N C) X
  mutation_over of_text of_bool answer schema given type_of resolves changes = record {
    engine = λ c. engine_over of_text of_bool answer schema given (type_of c) (resolves c);
    step = told_first of_text answer schema changes;
  }

  -- the same, of a request
  abbrev pub mutation_of : (Bytes → S) → (Bool → S) → (S → ScalarAnswer) → Request S C
      → (X → N → Bytes) → (X → Resolves S N) → Changes S N X → Mutation S (Asked S N C) X
  mutation_of of_text of_bool answer request =
      mutation_over of_text of_bool answer request.schema.now (value_in request.variables)
