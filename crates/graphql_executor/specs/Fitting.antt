-- Data that fit what a request selects, and errors of just what fails
-- (GraphQL October 2021, 6.2 Executing Operations, 6.4.3 Value Completion, 6.4.4 Handling Field
-- Errors).
use Rattle.std.specs.Prelude.{◌≡◌, ◌↔◌, ◌⊎◌, List, [], ◌∷◌, Option, Some, None}
use Rattle.std.specs.List.{Contains}
use Rattle.graphql_names.specs.Names.{Bytes}
use Rattle.graphql_values.specs.declared.input_value.InputValue.{InputValue}
use Rattle.graphql_output_values.specs.declared.value.Value.{Value}
use Rattle.graphql_output_values.specs.declared.value.Value.TheVariants as value
use Rattle.graphql_tree.specs.Definitions.{fragments_listed}
use Rattle.graphql_tree.specs.Documents.{variables_in}
use Rattle.graphql_tree.specs.declared.document.Definition.{Definition}
use Rattle.graphql_tree.specs.declared.document.Operation.{Operation}
use Rattle.graphql_written_out.specs.FinalValues.{final_value}
use Rattle.graphql_written_out.specs.Groups.{groups}
use Rattle.graphql_written_out.specs.Trees.{Tree}
use Rattle.graphql_written_out.specs.Written.{written}
use Rattle.graphql_field_results.specs.declared.execution_error.ExecutionError.{ExecutionError}
use Rattle.graphql_semantics.specs.Completion.{Members, object_members}
use Rattle.graphql_semantics.specs.Evaluation.{found_in}
use Rattle.graphql_semantics.specs.Failing.{Fails}
use Rattle.graphql_semantics.specs.Fitting.{MembersFit}
use Rattle.graphql_execution_walk.specs.declared.asked.Asked.TheVariants as asked
use Rattle.graphql_mutation.specs.Fitting.{RunFails, RunFits}
use Rattle.graphql_mutation.specs.Mutations.{mutation_over}
use Rattle.graphql_mutation.specs.Serial.{Mutation, root_groups}
use Rattle.graphql_schema.specs.Scalars.{Scalars}
use Rattle.graphql_executor.specs.Answered.{Asking}
use Rattle.graphql_executor.specs.Resolvers.{Resolver}

-- over what a request asks of resolvers: selection sets at the root of queries, or, where there is
-- one, at the root of mutations
module _ {S N X : Type 0} (m : Mutation S N X) (query : Bytes) (node : N)
    (sets : List (Tree S)) where
  -- the members fit the sets: at each place stands a value of the type that is declared there, and
  -- null only where it may
  abbrev pub MembersFitAt : Option Bytes → X → Members S → Type 0
  MembersFitAt None c = MembersFit (m.engine c) query (groups (found_in (m.engine c) query sets))
  MembersFitAt (Some root) c = RunFits m root c (root_groups m root c sets)

  -- something fails
  abbrev pub FailsAt : Option Bytes → X → ExecutionError S → Type 0
  FailsAt None c = Fails (m.engine c) [] query node sets
  FailsAt (Some root) c = RunFails m root c (root_groups m root c sets)

  -- data that fit, or null where something failed; and an error exactly where something fails
  pub record IsFit (root : Option Bytes) (c : X) (answered : Value S)
      (errors : List (ExecutionError S)) : Type 0 where
    pub fits : ((answered ≡ value.Null) × (errors ≡ [] → ⊥)) ⊎ ((members : Members S)
        × (answered ≡ object_members members)
        × MembersFitAt root c members)
    pub exact : (f : ExecutionError S) → Contains errors f ↔ FailsAt root c f

-- by what scalars mean, what a request asks, and what a resolver answers: of an operation of a
-- document, whose root is that of a mutation
abbrev pub FitsAnswer : {S C N X : Type 0} → Scalars S C → Asking S C → Resolver S N X
    → List (Definition S) → Operation S
    → Option Bytes → X → Value S → List (ExecutionError S) → Type 0
FitsAnswer s a r document operation =
    let values = final_value a.given (variables_in operation.variable_definitions) in
    IsFit (mutation_over s.of_text s.of_bool s.answer a.schema values r.type_of r.answer r.changes)
    a.schema.query (asked.Own r.root)
    (written (fragments_listed document) operation.selection_set ∷ [])
