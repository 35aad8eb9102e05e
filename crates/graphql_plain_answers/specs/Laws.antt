-- Laws of answers to alike selection sets (GraphQL October 2021, 6.3 Executing Selection Sets).
use Rattle.std.specs.Prelude.{◌≡◌, Bool, List, [], ◌∷◌, map}
use Rattle.std.specs.List.{Contains}
use Rattle.graphql_names.specs.Names.{Bytes}
use Rattle.graphql_scalars.specs.ScalarAnswers.{ScalarAnswer}
use Rattle.graphql_values.specs.InputValues.{Placed}
use Rattle.graphql_tree.specs.Definitions.{fragments_listed, operations_of}
use Rattle.graphql_tree.specs.Documents.{variables_in}
use Rattle.graphql_tree.specs.Unlocated.{unlocated_document, unlocated_operation}
use Rattle.graphql_tree.specs.Variables.{Variable}
use Rattle.graphql_tree.specs.declared.document.Definition.{Definition}
use Rattle.graphql_tree.specs.declared.document.Operation.{Operation}
use Rattle.graphql_written_out.specs.FinalValues.{final_value}
use Rattle.graphql_written_out.specs.Trees.{Directives, IsFilled, Tree}
use Rattle.graphql_written_out.specs.Written.{written}
use Rattle.graphql_semantics.specs.Engines.{Engine}
use Rattle.graphql_semantics.specs.Evaluation.{evaluate}
use Rattle.graphql_semantics.specs.Outcomes.{Outcome}
use Rattle.graphql_mutation.specs.Serial.{Mutation, mutate}
use Rattle.graphql_moved.specs.UnlocatedTrees.{unlocated_tree}
use Rattle.graphql_plain_tree.specs.Laws.{Fit}
use Rattle.graphql_plain_tree.specs.Plain.{plain}
use Rattle.graphql_plain_tree.specs.PlainDocuments.{document_of}
use Rattle.graphql_plain_tree.specs.PlainOperations.{PlainOperation, definitions_used}
use Rattle.graphql_plain_tree.specs.PlainOperations.{plain_operation, variables_used}
use Rattle.graphql_plain_tree.specs.PlainShape.{IsPlain}
use Rattle.graphql_plain_tree.specs.StandIns.{skip_true}
use Rattle.graphql_plain_answers.specs.AgreeingValues.{AgreeOn, Values}
use Rattle.graphql_plain_answers.specs.AlikeMutations.{SetsServedAlike, AskOverOneSchema}
use Rattle.graphql_plain_answers.specs.AlikeMutations.{SetsAreAlike}
use Rattle.graphql_plain_answers.specs.AlikeSets.{AreOverOneSchema, SetsAlike}
use Rattle.graphql_plain_answers.specs.Answers.{GiveTheSame, SucceedAlike}
use Rattle.graphql_plain_answers.specs.Lawful.{ForEachLawful}
use Rattle.graphql_plain_answers.specs.WithoutPlaces.{unlocated_outcome, unlocated_run}

-- ---- alike sets

-- alike sets give one value, and failures that differ in their places alone
abbrev pub AlikeGiveTheSame : Type 0 → Type 0 → Type 0
AlikeGiveTheSame S N =
    (e f : Engine S N) → AreOverOneSchema e f
    → (path : List Bytes) (object : Bytes) (node : N) (sets others : List (Tree S))
    → SetsAlike e f sets others
    → unlocated_outcome (evaluate e path object node sets)
    ≡ unlocated_outcome (evaluate f path object node others)

-- in mutations they leave one context, too
abbrev pub AlikeChangeTheSame : Type 0 → Type 0 → Type 0 → Type 0
AlikeChangeTheSame S N X =
    (m n : Mutation S N X) → AskOverOneSchema m n
    → (object : Bytes) (c : X) (sets others : List (Tree S)) → SetsAreAlike m n sets others
    → unlocated_run (mutate m object c sets) ≡ unlocated_run (mutate n object c others)

-- ---- plain sets

-- plain sets give and change what the sets do, where on each context the same directives leave out
abbrev pub PlainChangeTheSame : Type 0 → Type 0 → Type 0 → Type 0
PlainChangeTheSame S N X =
    (m : Mutation S N X) (drops : Directives S → Bool) (stand_in : Directives S)
    → Fit drops stand_in → ((c : X) → (m.engine c).drops ≡ drops)
    → (object : Bytes) (c : X) (sets : List (Tree S))
    → mutate m object c (map (plain drops stand_in) sets) ≡ mutate m object c sets

-- the definitions that are still used give each name that is used its final value
abbrev pub UsedDefinitionsSuffice : Type 0 → Type 0
UsedDefinitionsSuffice S =
    (given : Values S) (definitions : List (Variable S)) (names : List Bytes) (name : Bytes)
    → Contains names name
    → final_value given (definitions_used names definitions) name
    ≡ final_value given definitions name

-- an operation of a document is a plain operation but for places
-- `whole`: the definitions from which those of the plain operation were taken
pub record IsPlainAgain {S : Type 0} (p : PlainOperation S) (whole : List (Variable S))
    (again : List (Definition S)) (x : Operation S) : Type 0 where
  pub kind : x.operation_type ≡ p.operation_type
  -- written out, its set is the plain one
  pub set : unlocated_tree (written (fragments_listed again) x.selection_set) ≡ unlocated_tree p.set
  -- the variables that the set uses have their final values
  pub values : (given : Values S)
      → AgreeOn (final_value given whole) (final_value given (variables_in x.variable_definitions))
      (variables_used p.set)

-- where sets stand wherever some were written, a document that is the plain one but for places has
-- the plain operation but for places
abbrev pub PlainDocumentIsPlain : {S : Type 0} → (S → ScalarAnswer) → (Bool → S) → Type 0
PlainDocumentIsPlain {S} answer of_bool =
    (values : Values S) (document again : List (Definition S)) (o : Operation S)
    → (let fragments = fragments_listed document in
    let p = plain_operation answer of_bool values fragments o in
    IsFilled (written fragments o.selection_set)
    → unlocated_document again ≡ unlocated_document (document_of p)
    → (x : Placed (Operation S)) → Contains (operations_of again) x
    → IsPlainAgain p (variables_in o.variable_definitions) again x.item)

-- ---- answers

-- outcomes that are the same but for places have one value, and failures in both or in neither
abbrev pub OutcomesSucceedAlike : Type 0 → Type 0 → Type 0
OutcomesSucceedAlike S A =
    (o p : Outcome S A) → unlocated_outcome o ≡ unlocated_outcome p → SucceedAlike o p

-- `of_text`, `of_bool`, `answer`, `eq`: of the scalars
module _ {S : Type 0} (of_text : Bytes → S) (of_bool : Bool → S) (answer : S → ScalarAnswer)
    (eq : S → S → Bool) (C N X : Type 0) where
  -- sets that are the same but for places are alike
  abbrev pub PlacesDoNotCount : Type 0
  PlacesDoNotCount =
      ForEachLawful of_text of_bool answer eq C N X (λ asked.
      (values : Values S) (set other : Tree S) → unlocated_tree set ≡ unlocated_tree other
      → SetsServedAlike (asked values) (asked values) set other)

  -- so are plain ones, by values of variables that agree on those that the set uses
  abbrev pub UnusedVariablesDoNotCount : Type 0
  UnusedVariablesDoNotCount =
      ForEachLawful of_text of_bool answer eq C N X (λ asked.
      (values others : Values S) (set other : Tree S) → unlocated_tree set ≡ unlocated_tree other
      → IsPlain (skip_true of_bool) set → AgreeOn values others (variables_used set)
      → SetsServedAlike (asked values) (asked others) set other)

  -- an operation and that of a document that is its plain document but for places give the same,
  -- also where variables have other values then that no field of the plain document uses
  abbrev pub PlainDocumentsAnswerAlike : Type 0
  PlainDocumentsAnswerAlike =
      ForEachLawful of_text of_bool answer eq C N X (λ asked.
      (given others : Values S) (document again : List (Definition S)) (o : Operation S)
      → (let fragments = fragments_listed document in
      let definitions = variables_in o.variable_definitions in
      let p = plain_operation answer of_bool (final_value given definitions) fragments o in
      IsFilled (written fragments o.selection_set)
      → unlocated_document again ≡ unlocated_document (document_of p)
      → AgreeOn given others (variables_used p.set)
      → (x : Placed (Operation S)) → Contains (operations_of again) x
      → GiveTheSame (asked (final_value given definitions))
      (asked (final_value others (variables_in x.item.variable_definitions)))
      (written fragments o.selection_set ∷ [])
      (written (fragments_listed again) x.item.selection_set ∷ [])))

  -- operations of documents that differ in places alone give the same
  abbrev pub SameDocumentsAnswerAlike : Type 0
  SameDocumentsAnswerAlike =
      ForEachLawful of_text of_bool answer eq C N X (λ asked.
      (given : Values S) (document again : List (Definition S)) (o x : Operation S)
      → unlocated_document document ≡ unlocated_document again
      → unlocated_operation o ≡ unlocated_operation x
      → GiveTheSame (asked (final_value given (variables_in o.variable_definitions)))
      (asked (final_value given (variables_in x.variable_definitions)))
      (written (fragments_listed document) o.selection_set ∷ [])
      (written (fragments_listed again) x.selection_set ∷ []))
