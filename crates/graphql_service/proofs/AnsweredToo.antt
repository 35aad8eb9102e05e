-- What is answered without errors to a request is answered to its plain text, and the other way round.
use Rattle.std.proofs.Common.{◌≡◌, refl, sym, ◌∙◌, ap, subst, List, [], map, Option}
use Rattle.std.specs.declared.cmp.Ordering.{Ordering}
use Rattle.std.specs.List.Sorted.{IsPermutation}
use Rattle.std.specs.Option.{option_map}
use Rattle.std.specs.Str.{chars}
use Rattle.std.proofs.lemmas.List.Sorted.{IsPermutation-refl, length_permutation}
use Rattle.graphql_names.specs.Names.{Bytes}
use Rattle.graphql_values.specs.InputValues.{Placed, unlocated}
use Rattle.graphql_values.specs.declared.input_value.InputValue.{InputValue}
use Rattle.graphql_output_values.specs.declared.value.Value.{Value}
use Rattle.graphql_tree.specs.Documents.{variables_in}
use Rattle.graphql_tree.specs.declared.document.Definition.{Definition}
use Rattle.graphql_tree.specs.declared.document.Operation.{Operation}
use Rattle.graphql_written_out.specs.FinalValues.{final_value}
use Rattle.graphql_schema.specs.declared.root_node.RootNode.{RootNode}
use Rattle.graphql_schema.specs.declared.schema.SchemaType.{SchemaType}
use Rattle.graphql_field_results.specs.declared.execution_error.ExecutionError.{ExecutionError}
use Rattle.graphql_semantics.specs.Completion.{Members}
use Rattle.graphql_semantics.specs.Outcomes.{Outcome}
use Rattle.graphql_mutation.specs.Serial.{Run}
use Rattle.graphql_plain_answers.specs.AgreeingValues.{AgreeOn}
use Rattle.graphql_plain_answers.specs.Lawful.{IsLawful}
use Rattle.graphql_plain_answers.specs.Laws.{PlainDocumentIsPlain}
use Rattle.graphql_plain_answers.specs.WithoutPlaces.{unlocated_failure, unlocated_outcome, unlocated_run}
use Rattle.graphql_plain_requests.specs.AcceptedAgain.{AreEqualOn, used_by}
use Rattle.graphql_plain_requests.specs.Laws.{PlainTextsAreAccepted, UnusedValuesAreNotAsked}
use Rattle.graphql_plain_requests.specs.PlainRequests.{asked_at}
use Rattle.graphql_requests.specs.Asked.{IsExecutable, OneIsExecuted}
use Rattle.graphql_requests.specs.Operations.{mutation_root}
use Rattle.graphql_schema.specs.Scalars.{Scalars}
use Rattle.graphql_executor.specs.Answered.{IsAnswered}
use Rattle.graphql_executor.specs.Executed.{Yields, data_of, runs}
use Rattle.graphql_executor.specs.Resolvers.{Resolver}
use Rattle.graphql_service.specs.MeaningLaws.{PlainIsAnsweredAlike, PlainIsAnsweredToo}
use Rattle.graphql_service.specs.Yields.{PlainRunsAreAlike}
use Rattle.graphql_service.proofs.AlikeYields.{as-many, none-of}

-- operations of one type whose runs are the same but for places: what one yields without errors, the other yields
module _ {S C N X : Type 0} (s : Scalars S C) (schema : SchemaType S C) (r : Resolver S N X)
    (given others : Bytes → Option (InputValue S)) (document again : List (Definition S)) (o x : Operation S) where
  yields-too : x.operation_type ≡ o.operation_type
      → ((root : Option Bytes) (c : X) → unlocated_run (runs s schema r document given o root c)
      ≡ unlocated_run (runs s schema r again others x root c))
      → (cmp : ExecutionError S → ExecutionError S → Ordering) (old new : X) (answered : Value S)
      → Yields s schema r document given o cmp old answered [] new
      → Yields s schema r again others x cmp old answered [] new
  yields-too kind law cmp old new answered y =
      let one : Run S X (Members S) = runs s schema r document given o y.root old in
      let theirs : Run S X (Members S) = runs s schema r again others x y.root old in
      let same : unlocated_run one ≡ unlocated_run theirs = law y.root old in
      let outcome : unlocated_outcome one.outcome ≡ unlocated_outcome theirs.outcome =
      ap (λ (run : Run S X (Members S)). run.outcome) same in
      let failures : map unlocated_failure one.outcome.failures ≡ map unlocated_failure theirs.outcome.failures =
      ap (λ (p : Outcome S (Members S)). p.failures) outcome in
      let told = y.responds.response.all in
      let ours : one.outcome.failures ≡ [] =
      none-of one.outcome.failures (sym (length_permutation one.outcome.failures [] told)) in
      let others : theirs.outcome.failures ≡ [] =
      as-many unlocated_failure one.outcome.failures theirs.outcome.failures []
      theirs.outcome.failures failures told (IsPermutation-refl theirs.outcome.failures) refl in
      record {
        root = y.root;
        served = ap (mutation_root schema.mutation) kind ∙ y.served;
        responds = record {
          response = record {
            is = y.responds.response.is ∙ ap (λ (p : Outcome S (Members S)). data_of p) outcome;
            all = subst (λ (xs : List (ExecutionError S)). IsPermutation xs []) (ours ∙ sym others) told;
            sorted = y.responds.response.sorted;
          };
          after = y.responds.after ∙ ap (λ (run : Run S X (Members S)). run.after) same;
        };
      }

module _ {S C N X : Type 0} (s : Scalars S C) (root : RootNode S C) (r : Resolver S N X) where
  pub plain-is-answered-alike : PlainTextsAreAccepted s root → UnusedValuesAreNotAsked s → OneIsExecuted s
      → IsLawful s.eq r.answer r.changes → PlainRunsAreAlike s N X → PlainDocumentIsPlain s.answer s.of_bool
      → PlainIsAnsweredAlike s root r
  plain-is-answered-alike accepted not_asked one_executed lawful alike is takes source name given others
      bytes utf8 text equal cmp old new answered =
      let there = accepted takes source name given bytes utf8 text in
      let pair = there.pair in
      let o = there.operation.item in
      let x = there.other.item in
      let kind : x.operation_type ≡ o.operation_type =
      (is (final_value given (variables_in o.variable_definitions)) there.document there.again o pair.filled pair.same
      there.other pair.among).kind in
      let own = one_executed (asked_at root (chars source) name given) text.document there.document
      text.operation there.operation text.executable there.executable in
      let used : AreEqualOn given others (used_by s given there.document o) =
      subst (λ (d : List (Definition S)). AreEqualOn given others (used_by s given d o)) (sym own.0)
      (subst (λ (p : Placed (Operation S)). AreEqualOn given others (used_by s given text.document p.item))
      (sym own.1) equal) in
      let agree : AgreeOn given others (used_by s given there.document o) =
      λ n i. ap (option_map unlocated) (sym (used n i)) in
      let stands : IsExecutable s (asked_at root (chars bytes) name others) there.again there.other =
      not_asked given others there.document o there.again there.other pair used root.schema
      root.introspection_disabled (chars bytes) name there.accepted in
      let law : (served : Option Bytes) (c : X) → unlocated_run (runs s root.schema r there.document given o served c)
      ≡ unlocated_run (runs s root.schema r there.again others x served c) =
      alike root.schema r lawful given others there.document o there.again there.other pair agree in (
        (λ y.
            let ours = one_executed (asked_at root (chars source) name given) there.document y.document
            there.operation y.operation there.executable y.executable in
            let first : Yields s root.schema r there.document given o cmp old answered [] new =
            subst (λ (d : List (Definition S)). Yields s root.schema r d given o cmp old answered [] new) ours.0
            (subst (λ (p : Placed (Operation S)). Yields s root.schema r y.document given p.item cmp old answered [] new)
            ours.1 y.yields) in
            record {
              document = there.again;
              operation = there.other;
              executable = stands;
              yields = yields-too s root.schema r given others there.document there.again o x kind law cmp old new
                  answered first;
            }),
        (λ z.
            let theirs = one_executed (asked_at root (chars bytes) name others) there.again z.document
            there.other z.operation stands z.executable in
            let second : Yields s root.schema r there.again others x cmp old answered [] new =
            subst (λ (d : List (Definition S)). Yields s root.schema r d others x cmp old answered [] new) theirs.0
            (subst (λ (p : Placed (Operation S)). Yields s root.schema r z.document others p.item cmp old answered [] new)
            theirs.1 z.yields) in
            record {
              document = there.document;
              operation = there.operation;
              executable = there.executable;
              yields = yields-too s root.schema r others given there.again there.document x o (sym kind)
                  (λ served c. sym (law served c)) cmp old new answered second;
            }),
      )

  pub plain-is-answered-too : PlainIsAnsweredAlike s root r → PlainIsAnsweredToo s root r
  plain-is-answered-too alike takes source name given bytes utf8 text =
      alike takes source name given given bytes utf8 text (λ n used. refl)
