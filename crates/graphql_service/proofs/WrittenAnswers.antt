-- What is written of a line is its answer.
use Rattle.std.proofs.Common.{◌≡◌, List, inl, inr, ◌<◌, ◌≤◌, [], ◌∷◌, ◌++◌, length, Option, Some, None, option_map, Result, Ok, Err, OnOk, OnErr, string_bytes, refl, sym, subst, ◌∙◌, append-nil}
use Rattle.std.specs.HashMap.{get_by_text}
use Rattle.std.specs.Str.{chars}
use Rattle.graphql_names.specs.Names.{Bytes}
use Rattle.graphql_scalars.specs.ScalarAnswers.{ScalarAnswer}
use Rattle.graphql_values.specs.declared.input_value.InputValue.{InputValue}
use Rattle.graphql_output_values.specs.declared.value.Value.{Value}
use Rattle.graphql_field_results.specs.declared.execution_error.ExecutionError.{ExecutionError}
use Rattle.graphql_executor.specs.Requests.{GraphQLError, Scalars}
use Rattle.graphql_executor.specs.Requests as request_error
use Rattle.std.specs.declared.cmp.Ordering.{Ordering}
use Rattle.graphql_mutation.specs.Serial.{Mutation, root_groups}
use Rattle.graphql_written_out.specs.Trees.{Tree}
use Rattle.graphql_executor.specs.Answered.{Asking, IsAnswered, IsBrokenOff, IsRefused, LeftUnanswered, asking}
use Rattle.graphql_written_out.specs.Written.{written}
use Rattle.graphql_execution_walk.specs.declared.asked.Asked.TheVariants as asked
use Rattle.graphql_tree.specs.Definitions.{fragments_listed}
use Rattle.graphql_executor.specs.Executed.{IsBegunAt, what_is_asked, run_at}
use Rattle.graphql_executor.specs.Resolvers.{Resolver}
use Rattle.graphql_lines.specs.Request.{HoldsRequest, Request, request_of}
use Rattle.graphql_lines.specs.Variables.{IsDue}
use Rattle.graphql_lines.specs.declared.refusal.LineRefusal.{LineRefusal}
use Rattle.graphql_lines.specs.declared.refusal.LineRefusal.TheVariants.{LineTooLong, NotARequest, BadNumber, Memory}
use Rattle.graphql_lines.specs.declared.request.GraphQLRequest.{GraphQLRequest}
use Rattle.graphql_answers.specs.Lines.{IsLine, line_of}
use Rattle.graphql_answers.specs.Responses.{refusal_response, response_of}
use Rattle.graphql_service.specs.Answers.{Answerer, Appends, Asks, asked_by, given, IsNoRequest, IsAnswer, LeavesBroken, no_request, not_executed, executed_to}
use Rattle.graphql_service.specs.Laws.{IsLineOfDistinctKeys}
use Rattle.graphql_service.specs.Serving.{AnswersLine}
use Rattle.graphql_service.specs.Texts.{told_of_line, told_of_request}

-- a fact on `Ok` gives another
pub on_ok : {A E : Type 0} (r : Result A E) (P Q : Type 0) → (P → Q) → OnOk r P → OnOk r Q
on_ok (Ok x) P Q f h = f h
on_ok (Err e) P Q f h = h

-- two facts on `Ok` give a third
pub both_on_ok : {A E : Type 0} (r : Result A E) (P Q R : Type 0) → (P → Q → R) → OnOk r P → OnOk r Q → OnOk r R
both_on_ok (Ok x) P Q R f h k = f h k
both_on_ok (Err e) P Q R f h k = h

-- what always holds holds on `Err`
pub on_err : {A E : Type 0} (r : Result A E) (P : Type 0) → P → OnErr r P
on_err (Ok x) P h = tt
on_err (Err e) P h = h

-- a fact on `Err` gives another
pub also_on_err : {A E : Type 0} (r : Result A E) (P Q : Type 0) → (P → Q) → OnErr r P → OnErr r Q
also_on_err (Ok x) P Q f h = h
also_on_err (Err e) P Q f h = f h

-- what is written behind nothing is all
pub alone : (P : Bytes → Type 0) (old new : Bytes) → old ≡ [] → Appends P old new → P new
alone P old new nothing written = subst P (sym (written.1 ∙ (λ i. nothing i ++ written.0))) written.2

-- what an operation leaves at its end, it leaves after a beginning
begun-at-the-end : {S N X : Type 0} (m : Mutation S N X) (query : Bytes) (node : N) (sets : List (Tree S)) (root : Option Bytes)
    (c new : X) → new ≡ (run_at m query node sets root c).after → IsBegunAt m query node sets root c new
begun-at-the-end m query node sets None c new is = is
begun-at-the-end m query node sets (Some root) c new is = record {
  done = root_groups m root c sets;
  others = [];
  is = sym (append-nil (root_groups m root c sets));
  after = is;
}

pub broken-at-the-end : {S C N X : Type 0} (s : Scalars S C) (a : Asking S C) (r : Resolver S N X) (cmp : ExecutionError S → ExecutionError S → Ordering)
    (old new : X) (found : Value S) (errors : List (ExecutionError S)) → IsAnswered s a r cmp old found errors new → IsBrokenOff s a r old new
broken-at-the-end s a r cmp old new found errors h = record {
  document = h.document;
  operation = h.operation;
  executable = h.executable;
  broken = record {
    root = h.yields.root;
    served = h.yields.served;
    begun = begun-at-the-end (what_is_asked s a.schema r h.document a.given h.operation.item) a.schema.query (asked.Own r.root)
        (written (fragments_listed h.document) h.operation.item.selection_set ∷ []) h.yields.root old new h.yields.responds.after;
  };
}

module _ {S C N X : Type 0} (a : Answerer S C N X) (line : Bytes) where
  abbrev Answer : X → X → Bytes → Type 0
  Answer old new text = IsAnswer a line old text new

  -- a line that is no request is refused for what stands first
  pub due : (refusal : LineRefusal) → length line ≤ a.limit
      → IsDue a.scalars.of_bool a.scalars.of_int a.scalars.of_text (λ (q : Request). q.variables) (request_of line) refusal
      → IsNoRequest a line refusal
  due LineTooLong within h = absurd h
  due NotARequest within h = (within, h)
  due BadNumber within h = (h.0, within, h.1, h.2)
  due Memory within h = absurd h

  pub too_long : (c : X) (old new : Bytes) → a.limit < length line
      → new ≡ old ++ line_of (refusal_response (told_of_line a.limit LineTooLong)) → Appends (Answer c c) old new
  too_long c old new longer e =
      (line_of (refusal_response (told_of_line a.limit LineTooLong)), e, no_request LineTooLong longer refl refl)

  pub no_request_answer : (refusal : LineRefusal) (c : X) (old new : Bytes) → length line ≤ a.limit
      → IsDue a.scalars.of_bool a.scalars.of_int a.scalars.of_text (λ (q : Request). q.variables) (request_of line) refusal
      → new ≡ old ++ line_of (refusal_response (told_of_line a.limit refusal)) → Appends (Answer c c) old new
  no_request_answer refusal c old new within h e =
      (line_of (refusal_response (told_of_line a.limit refusal)), e, no_request refusal (due refusal within h) refl refl)

  -- a request that holds what the line asks: its query, its operation's name and its values are those of the line
  module _ (asked : Request) (request : GraphQLRequest S) (query : Bytes) (name : Option Bytes)
      (holds : HoldsRequest a.scalars.of_bool a.scalars.of_int a.scalars.of_text asked request)
      (its_query : query ≡ string_bytes request.query)
      (its_name : name ≡ option_map (λ t. string_bytes t) request.operation_name) (asks : Asks a line asked) where
    values : get_by_text request.variables ≡ given a.scalars asked
    values = λ i key. holds.variables.values key i

    abbrev asked_with : Bytes → Option Bytes → (Bytes → Option (InputValue S)) → Asking S C
    asked_with q n v = asking a.schema a.introspection_disabled (chars q) n v

    pub as_asked : (P : Asking S C → Type 0) → P (asked_with query name (get_by_text request.variables)) → P (asked_by a line asked)
    as_asked P h =
        subst (λ v. P (asked_with asked.query asked.operation_name v)) values
        (subst (λ n. P (asked_with asked.query n (get_by_text request.variables))) (its_name ∙ holds.operation_name)
        (subst (λ q. P (asked_with q name (get_by_text request.variables))) (its_query ∙ holds.query) h))

    pub executed_answer : (found : Value S) (errors : List (ExecutionError S)) (c after : X) (old new : Bytes)
        → IsAnswered a.scalars (asked_with query name (get_by_text request.variables)) a.resolver a.by_fields c found errors after
        → new ≡ old ++ line_of (response_of a.scalars.answer found errors) → Appends (Answer c after) old new
    executed_answer found errors c after old new h e = (
      line_of (response_of a.scalars.answer found errors),
      e,
      executed_to found errors (record {
        request = asked;
        asks = asks;
        answers = as_asked (λ q. IsAnswered a.scalars q a.resolver a.by_fields c found errors after) h;
      }) refl,
    )

    pub refused_answer : (refusal : GraphQLError) (c after : X) (old new : Bytes)
        → IsRefused a.scalars (asked_with query name (get_by_text request.variables)) a.by_rules refusal
        → LeftUnanswered a.scalars (asked_with query name (get_by_text request.variables)) a.resolver refusal c after
        → new ≡ old ++ line_of (refusal_response (told_of_request refusal)) → (refusal ≡ request_error.Memory → ⊥)
        → Appends (Answer c after) old new
    refused_answer refusal c after old new h left e is = (
      line_of (refusal_response (told_of_request refusal)),
      e,
      not_executed refusal (record {
        request = asked;
        asks = asks;
        is_refusal = is;
        due = as_asked (λ q. IsRefused a.scalars q a.by_rules refusal) h;
      }) refl (kept refusal left is),
    )
      where
        kept : (e : GraphQLError) → LeftUnanswered a.scalars (asked_with query name (get_by_text request.variables)) a.resolver e c after
            → (e ≡ request_error.Memory → ⊥) → after ≡ c
        kept (request_error.ParseError fault) l n = l
        kept (request_error.ValidationError errors) l n = l
        kept request_error.NoOperationProvided l n = l
        kept request_error.MultipleOperationsProvided l n = l
        kept request_error.UnknownOperationName l n = l
        kept request_error.IsSubscription l n = l
        kept request_error.NotSubscription l n = l
        kept request_error.NoMutationType l n = l
        kept request_error.Memory l n = absurd (n refl)

    -- where memory runs out once the operation is executed, its whole change is left
    pub executed_broken : (found : Value S) (errors : List (ExecutionError S)) (c after : X)
        → IsAnswered a.scalars (asked_with query name (get_by_text request.variables)) a.resolver a.by_fields c found errors after
        → LeavesBroken a line c after
    executed_broken found errors c after h = inr (record {
      request = asked;
      asks = asks;
      broken = as_asked (λ q. IsBrokenOff a.scalars q a.resolver c after) (broken-at-the-end a.scalars _ a.resolver a.by_fields c after found errors h);
    })

    pub refused_broken : (refusal : GraphQLError) (c after : X)
        → LeftUnanswered a.scalars (asked_with query name (get_by_text request.variables)) a.resolver refusal c after
        → LeavesBroken a line c after
    refused_broken (request_error.ParseError fault) c after l = inl l
    refused_broken (request_error.ValidationError errors) c after l = inl l
    refused_broken request_error.NoOperationProvided c after l = inl l
    refused_broken request_error.MultipleOperationsProvided c after l = inl l
    refused_broken request_error.UnknownOperationName c after l = inl l
    refused_broken request_error.IsSubscription c after l = inl l
    refused_broken request_error.NotSubscription c after l = inl l
    refused_broken request_error.NoMutationType c after l = inl l
    refused_broken request_error.Memory c after (inl same) = inl same
    refused_broken request_error.Memory c after (inr broken) = inr (record {
      request = asked;
      asks = asks;
      broken = as_asked (λ q. IsBrokenOff a.scalars q a.resolver c after) broken;
    })

  -- an answer is one line
  pub answer_is_line : ((v : Value ScalarAnswer) → IsLine (line_of v)) → (old new : X) (answered : Bytes) → Answer old new answered
      → IsLine answered
  answer_is_line lines old new answered (no_request refusal h e kept) = subst IsLine (sym e) (lines (refusal_response (told_of_line a.limit refusal)))
  answer_is_line lines old new answered (not_executed refusal h e kept) = subst IsLine (sym e) (lines (refusal_response (told_of_request refusal)))
  answer_is_line lines old new answered (executed_to found errors h e) = subst IsLine (sym e) (lines (response_of a.scalars.answer found errors))

  -- the answer that is written behind others is one line, with distinct keys
  pub answer_as_line : ((v : Value ScalarAnswer) → IsLine (line_of v)) → (old new : X)
      → ((text : Bytes) → Answer old new text → IsLineOfDistinctKeys text) → (before after : Bytes) → Appends (Answer old new) before after
      → Appends (λ text. AnswersLine a old line text new) before after
  answer_as_line lines old new distinct before after h = (
    h.0,
    h.1,
    record { answer = h.2; one_line = answer_is_line lines old new h.0 h.2; distinct = distinct h.0 h.2 },
  )

  -- where nothing stood before, it is all that is written
  module _ {A E : Type 0} (r : Result A E) (old new : X) (before after : Bytes) (nothing : before ≡ []) where
    all_written : OnOk r (Appends (λ text. AnswersLine a old line text new) before after) → OnOk r (AnswersLine a old line after new)
    all_written h =
        on_ok r (Appends (λ text. AnswersLine a old line text new) before after) (AnswersLine a old line after new)
        (alone (λ text. AnswersLine a old line text new) before after nothing) h

    pub written_answer : OnOk r (Appends (λ text. AnswersLine a old line text new) before after) → OnOk r (Answer old new after)
    written_answer h = on_ok r (AnswersLine a old line after new) (Answer old new after) (λ k. k.answer) (all_written h)

    pub written_line : OnOk r (Appends (λ text. AnswersLine a old line text new) before after) → OnOk r (IsLine after)
    written_line h = on_ok r (AnswersLine a old line after new) (IsLine after) (λ k. k.one_line) (all_written h)

    pub written_distinct : OnOk r (Appends (λ text. AnswersLine a old line text new) before after) → OnOk r (IsLineOfDistinctKeys after)
    written_distinct h = on_ok r (AnswersLine a old line after new) (IsLineOfDistinctKeys after) (λ k. k.distinct) (all_written h)
