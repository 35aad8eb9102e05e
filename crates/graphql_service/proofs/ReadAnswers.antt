-- What is written of what is read of a line already is its answer.
use Rattle.std.proofs.Common.{◌≡◌, inl, inr, ◌++◌, List, Option, Result, Ok, Err, refl, subst}
use Rattle.std.specs.HashMap.{get_by_text}
use Rattle.graphql_names.specs.Names.{Bytes}
use Rattle.graphql_values.specs.declared.input_value.InputValue.{InputValue}
use Rattle.graphql_output_values.specs.declared.value.Value.{Value}
use Rattle.graphql_field_results.specs.declared.execution_error.ExecutionError.{ExecutionError}
use Rattle.graphql_requests.specs.Refusals.{IsNotServed}
use Rattle.graphql_executor.specs.Answered.{IsAnswered}
use Rattle.graphql_executor.specs.Executed.{IsBroken, LeavesUnanswered, Yields}
use Rattle.graphql_executor.specs.Requests.{GraphQLError}
use Rattle.graphql_executor.specs.Requests as error
use Rattle.graphql_lines.specs.declared.refusal.LineRefusal.{LineRefusal}
use Rattle.graphql_answers.specs.Lines.{line_of}
use Rattle.graphql_answers.specs.Responses.{refusal_response, response_of}
use Rattle.graphql_service.specs.Answers.{Answerer, Appends, IsAnswer, IsNoRequest, IsNotExecuted, LeavesBroken, asked_by, executed_to, given, no_request, not_executed}
use Rattle.graphql_service.specs.Reading.{Executes}
use Rattle.graphql_service.specs.Texts.{told_of_line, told_of_request}
use Rattle.graphql_service.specs.declared.accepted.AcceptedRequest.{AcceptedRequest}
use Rattle.graphql_service.proofs.WrittenAnswers.{broken-at-the-end}

-- a result is not both
not-both : {A E : Type 0} (r : Result A E) (x : A) (e : E) → r ≡ Ok x → r ≡ Err e → ⊥
not-both r x e is not = absurd (cc)

module _ {S C N X : Type 0} (a : Answerer S C N X) (line : Bytes) where
  abbrev Writes : X → X → Bytes → Bytes → Type 0
  Writes old new before after = Appends (λ text. IsAnswer a line old text new) before after

  pub line-refused : (refusal : LineRefusal) (c : X) (before after : Bytes)
      → after ≡ before ++ line_of (refusal_response (told_of_line a.limit refusal))
      → IsNoRequest a line refusal → Writes c c before after
  line-refused refusal c before after e h =
      (line_of (refusal_response (told_of_line a.limit refusal)), e, no_request refusal h refl refl)

  pub request-refused : (why : GraphQLError) (c : X) (before after : Bytes)
      → after ≡ before ++ line_of (refusal_response (told_of_request why))
      → IsNotExecuted a line why → Writes c c before after
  request-refused why c before after e h =
      (line_of (refusal_response (told_of_request why)), e, not_executed why h refl refl)

  module _ (r : AcceptedRequest S) (x : Executes a line r) where
    -- the values are those that the line gives
    over-values : (P : (Bytes → Option (InputValue S)) → Type 0)
        → P (get_by_text r.variables.now) → P (given a.scalars x.request)
    over-values P h = subst P x.values h

    answered : (found : Value S) (errors : List (ExecutionError S)) (old new : X)
        → Yields a.scalars a.schema a.resolver r.document.now (get_by_text r.variables.now)
        r.operation.now.item a.by_fields old found errors new
        → IsAnswered a.scalars (asked_by a line x.request) a.resolver a.by_fields old found errors new
    answered found errors old new h = record {
      document = r.document.now;
      operation = r.operation.now;
      executable = x.executable;
      yields =
          over-values (λ v. Yields a.scalars a.schema a.resolver r.document.now v
          r.operation.now.item a.by_fields old found errors new) h;
    }

    pub executed : (found : Value S) (errors : List (ExecutionError S)) (old new : X)
        (before after : Bytes)
        → Yields a.scalars a.schema a.resolver r.document.now (get_by_text r.variables.now)
        r.operation.now.item a.by_fields old found errors new
        → after ≡ before ++ line_of (response_of a.scalars.answer found errors)
        → Writes old new before after
    executed found errors old new before after h e = (
      line_of (response_of a.scalars.answer found errors),
      e,
      executed_to found errors (record {
        request = x.request;
        asks = x.asks;
        answers = answered found errors old new h;
      }) refl,
    )

    -- where memory runs out once the operation is executed, its whole change is left
    pub executed-broken : (found : Value S) (errors : List (ExecutionError S)) (old new : X)
        → Yields a.scalars a.schema a.resolver r.document.now (get_by_text r.variables.now)
        r.operation.now.item a.by_fields old found errors new
        → LeavesBroken a line old new
    executed-broken found errors old new h = inr (record {
      request = x.request;
      asks = x.asks;
      broken =
          broken-at-the-end a.scalars (asked_by a line x.request) a.resolver a.by_fields old new found
          errors (answered found errors old new h);
    })

    -- what is accepted is served
    pub is-served : (why : GraphQLError) → (why ≡ error.Memory → ⊥)
        → IsNotServed a.schema.mutation r.operation.now.item.operation_type why → ⊥
    is-served (error.ParseError fault) is h = not-both _ _ _ x.executable.ready.served h
    is-served (error.ValidationError errors) is h = not-both _ _ _ x.executable.ready.served h
    is-served error.NoOperationProvided is h = not-both _ _ _ x.executable.ready.served h
    is-served error.MultipleOperationsProvided is h = not-both _ _ _ x.executable.ready.served h
    is-served error.UnknownOperationName is h = not-both _ _ _ x.executable.ready.served h
    is-served error.IsSubscription is h = not-both _ _ _ x.executable.ready.served h
    is-served error.NotSubscription is h = not-both _ _ _ x.executable.ready.served h
    is-served error.NoMutationType is h = not-both _ _ _ x.executable.ready.served h
    is-served error.Memory is h = is refl

    pub left-broken : (why : GraphQLError) (old new : X)
        → LeavesUnanswered a.scalars a.schema a.resolver r.document.now
        (get_by_text r.variables.now) r.operation.now.item why old new
        → LeavesBroken a line old new
    left-broken (error.ParseError fault) old new h = inl h
    left-broken (error.ValidationError errors) old new h = inl h
    left-broken error.NoOperationProvided old new h = inl h
    left-broken error.MultipleOperationsProvided old new h = inl h
    left-broken error.UnknownOperationName old new h = inl h
    left-broken error.IsSubscription old new h = inl h
    left-broken error.NotSubscription old new h = inl h
    left-broken error.NoMutationType old new h = inl h
    left-broken error.Memory old new (inl same) = inl same
    left-broken error.Memory old new (inr broken) = inr (record {
      request = x.request;
      asks = x.asks;
      broken = record {
        document = r.document.now;
        operation = r.operation.now;
        executable = x.executable;
        broken =
            over-values (λ v. IsBroken a.scalars a.schema a.resolver r.document.now v
            r.operation.now.item old new) broken;
      };
    })
