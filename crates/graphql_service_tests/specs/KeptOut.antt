-- Answer lines whose data have no null at the root where the schema keeps it out (GraphQL October
-- 2021, 6.4.4 Handling Field Errors).
use Rattle.std.specs.Prelude.{◌≡◌, ◌≢◌, ◌⊎◌, true, List, [], ◌∷◌, reverse, Option, Some, unwrap_or}
use Rattle.std.specs.List.{AllZip}
use Rattle.graphql_names.specs.Names.{Bytes}
use Rattle.graphql_output_values.specs.declared.value.Value.{Value}
use Rattle.graphql_output_values.specs.declared.value.Value.TheVariants as value
use Rattle.graphql_schema.specs.Types.{TypeOf}
use Rattle.graphql_tree.specs.Definitions.{fragments_listed}
use Rattle.graphql_tree.specs.Documents.{variables_in}
use Rattle.graphql_written_out.specs.FinalValues.{final_value}
use Rattle.graphql_written_out.specs.Fields.{Found}
use Rattle.graphql_written_out.specs.Written.{written}
use Rattle.graphql_semantics.specs.Completion.{Members, is_required, object_members}
use Rattle.graphql_semantics.specs.Evaluation.{Group}
use Rattle.graphql_execution_walk.specs.FieldDeclarations.{declared_type}
use Rattle.graphql_execution_walk.specs.declared.asked.Asked.{Asked}
use Rattle.graphql_mutation.specs.Mutations.{mutation_over}
use Rattle.graphql_mutation.specs.Serial.{Mutation, root_groups}
use Rattle.graphql_service.specs.Answers.{Answerer, asked_by, given}
use Rattle.graphql_service.specs.FittingLines.{IsFittingLine}

-- by the types that are declared for the fields of an object type: a member under the key of a
-- group of fields, which is not null where the first of them is declared without null
pub record KeepsNullOut {S : Type 0} (declared : Bytes → Option TypeOf) (group : Group S)
    (member : Bytes × Value S) : Type 0 where
  pub key : member.0 ≡ group.0
  pub kept : (first : Found S) (others : List (Found S)) (type : TypeOf) → group.1 ≡ first ∷ others
      → declared first.head.name ≡ Some type → is_required (reverse type.modifiers) ≡ true
      → member.1 ≢ value.Null

-- a member for each group, in order
abbrev pub AllKeepNullOut : {S : Type 0} → (Bytes → Option TypeOf) → List (Group S) → Members S
    → Type 0
AllKeepNullOut declared groups members = AllZip (KeepsNullOut declared) groups members

-- by what a service answers a line, on a context
module _ {S C N X : Type 0} (a : Answerer S C N X) (line : Bytes) (old : X) {answered : Bytes}
    (is : IsFittingLine a line old answered) where
  -- the root of the operation that is executed
  abbrev pub run_root : Bytes
  run_root = unwrap_or is.root a.schema.query

  -- what it asks there
  abbrev pub mutation_asked : Mutation S (Asked S N C) X
  mutation_asked =
      let values = final_value (given a.scalars is.request)
      (variables_in is.operation.item.variable_definitions) in
      mutation_over a.scalars.of_text a.scalars.of_bool a.scalars.answer a.schema values
      a.resolver.type_of a.resolver.answer a.resolver.changes

  abbrev pub groups_of : List (Group S)
  groups_of = root_groups mutation_asked run_root old
      (written (fragments_listed is.document) is.operation.item.selection_set ∷ [])

  -- the data are null and there is an error; or they have a member for each group, and null nowhere
  -- that it is kept out
  abbrev pub KeepsNullOutAtRoot : Type 0
  KeepsNullOutAtRoot =
      ((is.found ≡ value.Null) × (is.errors ≡ [] → ⊥))
      ⊎ ((members : Members S)
      × (is.found ≡ object_members members)
      × AllKeepNullOut (declared_type a.schema.types run_root) groups_of members)
