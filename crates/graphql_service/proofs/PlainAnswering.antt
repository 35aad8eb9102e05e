-- What is told of a line is its plain text, or why it has none.
use Rattle.std.proofs.Common.{◌≡◌, ◌<◌, ◌≤◌, ℕ, List, [], ◌++◌, length, option_map, Result, OnOk, string_bytes, refl, sym, subst}
use Rattle.std.specs.HashMap.{get_by_text}
use Rattle.std.specs.Str.{chars}
use Rattle.graphql_names.specs.Names.{Bytes}
use Rattle.graphql_output_values.specs.DistinctKeys.{HasDistinctKeysThroughout}
use Rattle.graphql_rule_errors.specs.declared.rule_error.RuleError.{RuleError}
use Rattle.graphql_executor.specs.Answered.{Asking, asking}
use Rattle.graphql_lines.specs.Request.{HoldsRequest, Request, request_of}
use Rattle.graphql_lines.specs.Variables.{IsDue}
use Rattle.graphql_lines.specs.declared.refusal.LineRefusal.{LineRefusal}
use Rattle.graphql_lines.specs.declared.refusal.LineRefusal.TheVariants.{LineTooLong}
use Rattle.graphql_lines.specs.declared.request.GraphQLRequest.{GraphQLRequest}
use Rattle.graphql_answers.specs.Lines.{IsLine, PlainHasDistinctKeys, ValuesAreLines, line_of}
use Rattle.graphql_answers.specs.Responses.{plain_answer_of, refusal_response}
use Rattle.graphql_service.specs.PlainRequests.{HasNoPlainText, IsPlainTextWithin, PlainError}
use Rattle.graphql_service.specs.PlainRequests as error
use Rattle.graphql_service.specs.Answers.{Answerer, Appends, Asks}
use Rattle.graphql_service.specs.Laws.{IsLineOfDistinctKeys}
use Rattle.graphql_service.specs.PlainAnswers.{AnswersPlain, IsPlainAnswer, asks_nothing, not_plain, plain_to}
use Rattle.graphql_service.specs.Texts.{told_of_line, told_of_plain}
use Rattle.graphql_service.proofs.WrittenAnswers.{alone, as_asked, due, on_ok}

module _ {S C N X : Type 0} (a : Answerer S C N X) (size_limit : ℕ) (line : Bytes) where
  abbrev Told : Bytes → Type 0
  Told = IsPlainAnswer a size_limit line

  pub long_told : (old new : Bytes) → a.limit < length line
      → new ≡ old ++ line_of (refusal_response (told_of_line a.limit LineTooLong)) → Appends Told old new
  long_told old new longer e =
      (line_of (refusal_response (told_of_line a.limit LineTooLong)), e, asks_nothing LineTooLong longer refl)

  pub no_request_told : (refusal : LineRefusal) (old new : Bytes) → length line ≤ a.limit
      → IsDue a.scalars.of_bool a.scalars.of_int a.scalars.of_text (λ (q : Request). q.variables) (request_of line) refusal
      → new ≡ old ++ line_of (refusal_response (told_of_line a.limit refusal)) → Appends Told old new
  no_request_told refusal old new within h e =
      (line_of (refusal_response (told_of_line a.limit refusal)), e, asks_nothing refusal (due a line refusal within h) refl)

  -- of a request that holds what the line asks
  module _ (asked : Request) (request : GraphQLRequest S)
      (holds : HoldsRequest a.scalars.of_bool a.scalars.of_int a.scalars.of_text asked request) (asks : Asks a line asked) where
    abbrev held : Asking S C
    held =
        asking a.schema a.introspection_disabled (chars (string_bytes request.query))
        (option_map (λ t. string_bytes t) request.operation_name) (get_by_text request.variables)

    pub plain_told : (plain old new : Bytes) → IsPlainTextWithin a.scalars held size_limit plain
        → new ≡ old ++ line_of (plain_answer_of plain) → Appends Told old new
    plain_told plain old new h e = (
      line_of (plain_answer_of plain),
      e,
      plain_to plain (record {
        request = asked;
        asks = asks;
        is =
            as_asked a line asked request (string_bytes request.query) (option_map (λ t. string_bytes t) request.operation_name)
            holds refl refl asks (λ q. IsPlainTextWithin a.scalars q size_limit plain) h;
      }) refl,
    )

    pub refusal_told : (why : PlainError) (old new : Bytes) → HasNoPlainText a.scalars held a.by_rules size_limit why
        → new ≡ old ++ line_of (refusal_response (told_of_plain size_limit why)) → (why ≡ error.Memory → ⊥)
        → Appends Told old new
    refusal_told why old new h e is = (
      line_of (refusal_response (told_of_plain size_limit why)),
      e,
      not_plain why (record {
        request = asked;
        asks = asks;
        is_told = is;
        due =
            as_asked a line asked request (string_bytes request.query) (option_map (λ t. string_bytes t) request.operation_name)
            holds refl refl asks (λ q. HasNoPlainText a.scalars q a.by_rules size_limit why) h;
      }) refl,
    )

  -- the answer that is written behind others is one line, with distinct keys
  module _ (lines : ValuesAreLines) (errors_distinct : (errors : List RuleError) → HasDistinctKeysThroughout (refusal_response errors))
      (plain_distinct : PlainHasDistinctKeys) where
    as_line : (text : Bytes) → Told text → IsLine text
    as_line text (asks_nothing refusal h e) = subst IsLine (sym e) (lines (refusal_response (told_of_line a.limit refusal)))
    as_line text (not_plain why h e) = subst IsLine (sym e) (lines (refusal_response (told_of_plain size_limit why)))
    as_line text (plain_to plain h e) = subst IsLine (sym e) (lines (plain_answer_of plain))

    of_distinct_keys : (text : Bytes) → Told text → IsLineOfDistinctKeys text
    of_distinct_keys text (asks_nothing refusal h e) =
        record { found = refusal_response (told_of_line a.limit refusal); is = e; distinct = errors_distinct (told_of_line a.limit refusal) }
    of_distinct_keys text (not_plain why h e) =
        record { found = refusal_response (told_of_plain size_limit why); is = e; distinct = errors_distinct (told_of_plain size_limit why) }
    of_distinct_keys text (plain_to plain h e) = record { found = plain_answer_of plain; is = e; distinct = plain_distinct plain }

    pub told_as_line : (before after : Bytes) → Appends Told before after → Appends (AnswersPlain a size_limit line) before after
    told_as_line before after h =
        (h.0, h.1, record { answer = h.2; one_line = as_line h.0 h.2; distinct = of_distinct_keys h.0 h.2 })

  -- where nothing stood before, it is all that is written
  pub told_alone : {A E : Type 0} (r : Result A E) (before after : Bytes) → before ≡ []
      → OnOk r (Appends (AnswersPlain a size_limit line) before after) → OnOk r (AnswersPlain a size_limit line after)
  told_alone r before after nothing =
      on_ok r (Appends (AnswersPlain a size_limit line) before after) (AnswersPlain a size_limit line after)
      (alone (AnswersPlain a size_limit line) before after nothing)
