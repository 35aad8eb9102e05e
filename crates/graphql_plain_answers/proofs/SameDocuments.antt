-- Operations of documents that differ in places alone give the same.
use Rattle.std.proofs.Common.{◌≡◌, sym, ◌∙◌, ap, Bool, List, [], ◌∷◌, map, Option}
use Rattle.std.specs.Cmp.{IsEquivalence}
use Rattle.std.specs.Option.{option_map}
use Rattle.graphql_names.specs.Names.{Bytes}
use Rattle.graphql_scalars.specs.ScalarAnswers.{ScalarAnswer}
use Rattle.graphql_values.specs.InputValues.{unlocated}
use Rattle.graphql_values.specs.declared.input_value.InputValue.{InputValue}
use Rattle.graphql_tree.specs.Definitions.{fragments_listed}
use Rattle.graphql_tree.specs.Documents.{variables_in}
use Rattle.graphql_tree.specs.Unlocated.{unlocated_document, unlocated_operation}
use Rattle.graphql_tree.specs.declared.document.Definition.{Definition}
use Rattle.graphql_tree.specs.declared.document.Operation.{Operation}
use Rattle.graphql_written_out.specs.FinalValues.{final_value}
use Rattle.graphql_schema.specs.declared.schema.SchemaType.{SchemaType}
use Rattle.graphql_written_out.specs.Trees.{Tree, none, field, inline}
use Rattle.graphql_written_out.specs.Written.{written}
use Rattle.graphql_execution_walk.specs.Engines.{Resolves, engine_over}
use Rattle.graphql_execution_walk.specs.declared.asked.Asked.{Asked}
use Rattle.graphql_mutation.specs.Mutations.{Changes, mutation_over}
use Rattle.graphql_mutation.specs.Serial.{Mutation}
use Rattle.graphql_moved.specs.UnlocatedTrees.{unlocated_tree}
use Rattle.graphql_moved.proofs.UnlocatedDefinitions.{finals-alike, variables-alike}
use Rattle.graphql_moved.proofs.UnlocatedWritten.{left-out-alike, same-in-documents}
use Rattle.graphql_plain_answers.specs.AgreeingValues.{Values}
use Rattle.graphql_plain_answers.specs.AlikeMutations.{SetsServedAlike, AskOverOneSchema}
use Rattle.graphql_plain_answers.specs.Answers.{GiveTheSame}
use Rattle.graphql_plain_answers.specs.Lawful.{IsLawful}
use Rattle.graphql_plain_answers.specs.Laws.{SameDocumentsAnswerAlike}
use Rattle.graphql_plain_answers.proofs.AlikeRuns.{alike-give-the-same}
use Rattle.graphql_plain_answers.proofs.SerialAlike.{alike-change-the-same, at-context}
use Rattle.graphql_plain_answers.proofs.ServedAlike.{LeftAlike, one-schema, trees-alike}

-- by values of variables that are the same but for places the same selections are left out
module _ {S : Type 0} (answer : S → ScalarAnswer) (values others : Values S)
    (alike : (name : Bytes)
    → option_map unlocated (values name) ≡ option_map unlocated (others name)) where
  left-alike : (t : Tree S) → LeftAlike answer values others t
  left-alike none = tt
  left-alike (field head directives below rest) =
      (left-out-alike answer values others alike directives, left-alike below, left-alike rest)
  left-alike (inline on directives below rest) =
      (left-out-alike answer values others alike directives, left-alike below, left-alike rest)

module _ {S C N X : Type 0} (of_text : Bytes → S) (of_bool : Bool → S) (answer : S → ScalarAnswer)
    (eq : S → S → Bool) (laws : IsEquivalence eq)
    (schema : SchemaType S C) (type_of : X → N → Bytes) (resolves : X → Resolves S N)
    (changes : Changes S N X) (lawful : IsLawful eq resolves changes) where
  abbrev asked-by : Values S → Mutation S (Asked S N C) X
  asked-by values = mutation_over of_text of_bool answer schema values type_of resolves changes

  give-alike : (values others : Values S) → ((name : Bytes) → option_map unlocated (values name)
      ≡ option_map unlocated (others name))
      → (t u : Tree S) → unlocated_tree t ≡ unlocated_tree u
      → GiveTheSame (asked-by values) (asked-by others) (t ∷ []) (u ∷ [])
  unfolding engine_over
  give-alike values others agree t u is =
      let m : Mutation S (Asked S N C) X = asked-by values in
      let n : Mutation S (Asked S N C) X = asked-by others in
      let one : AskOverOneSchema m n =
      one-schema of_text of_bool answer schema eq laws type_of resolves changes lawful values others
      in
      let alike : SetsServedAlike m n t u =
      trees-alike of_text of_bool answer schema eq laws type_of resolves changes lawful values
      others t u is
      (λ name i. agree name) (left-alike answer values others agree t) in
      record {
        as_query = λ c path object node.
            alike-give-the-same (m.engine c) (n.engine c) (one c) path object node (t ∷ []) (u ∷ [])
            (at-context m n one object c (t ∷ []) (u ∷ []) (alike, tt));
        as_mutation = λ c object. alike-change-the-same m n one object c (t ∷ []) (u ∷ [])
            (alike, tt);
      }

pub same-documents-answer-alike : {S : Type 0} (of_text : Bytes → S) (of_bool : Bool → S)
    (answer : S → ScalarAnswer)
    (eq : S → S → Bool) → IsEquivalence eq → (C N X : Type 0)
    → SameDocumentsAnswerAlike of_text of_bool answer eq C N X
same-documents-answer-alike of_text of_bool answer eq laws C N X schema type_of resolves changes lawful
    given document again o x documents operations =
    give-alike of_text of_bool answer eq laws schema type_of resolves changes lawful
    (final_value given (variables_in o.variable_definitions))
    (final_value given (variables_in x.variable_definitions))
    (λ name. finals-alike given name (variables_in o.variable_definitions)
    (variables_in x.variable_definitions) (variables-alike o x operations))
    (written (fragments_listed document) o.selection_set)
    (written (fragments_listed again) x.selection_set)
    (same-in-documents document again o x documents operations)
