-- What is answered to a line, by what the store allows.
use Rattle.std.proofs.Common.{◌≡◌, inl, inr, refl, sym, subst, string_bytes, String, ℕ, Bool, true, false, List, [], ◌++◌, Result, Ok, Err, OnOk, OnErr}
use Rattle.std.specs.declared.alloc.Global.{Global}
use Rattle.graphql_names.specs.Names.{Bytes}
use Rattle.graphql_stores.specs.Stores.{is_allowed}
use Rattle.graphql_stores.specs.declared.allowed_queries.AllowedQueries.{AllowedQueries}
use Rattle.graphql_output_values.specs.DistinctKeys.{HasDistinctKeysThroughout}
use Rattle.graphql_rule_errors.specs.declared.rule_error.RuleError.{RuleError}
use Rattle.graphql_answers.specs.Lines.{ValuesAreLines}
use Rattle.graphql_answers.specs.Responses.{refusal_response}
use Rattle.graphql_requests.specs.Asked.{ExecutableAreNotRefused}
use Rattle.graphql_service.specs.Answers.{Answerer, Appends, IsAnswer, LeavesBroken, executed_to, no_request, not_executed}
use Rattle.graphql_service.specs.PlainAnswers.{HasPlain}
use Rattle.graphql_service.specs.Serving.{AnswersLine, BreaksAtLine}
use Rattle.graphql_service.proofs.WrittenAnswers.{alone, on_ok}
use Rattle.graphql_stores.specs.Allowing.{AnswersIfAllowed, BreaksIfAllowed, IsAnswerIfAllowed, Passes, not_allowed, not_allowed_error, not_allowed_line, refused_first, served}
use Rattle.graphql_stores.specs.Stored.{IsAskedBy, IsRefusedFirst}
use Rattle.graphql_stores.specs.declared.asked.Asked.{Asked}
use Rattle.graphql_stores.specs.declared.asked.Asked.TheVariants.{Plain, Refused}
use Rattle.graphql_stores.proofs.RefusedFirst.{refused-not-executed}

module _ {S C N X : Type 0} (a : Answerer S C N X) (size_limit : ℕ) (store : AllowedQueries) (line : Bytes) where
  -- the store decides of a plain text
  by-store : (plain : Bytes) (b : Bool) → HasPlain a size_limit line plain → is_allowed store plain ≡ b
      → Passes a size_limit store line b
  by-store plain true has is = inl (record {
    request = has.request;
    asks = has.asks;
    allowed = record { plain = plain; is = has.is; stored = is };
  })
  by-store plain false has is = inl (plain, has, is)

  pub plain-passes : (it : Asked) (held : String Global) → it ≡ Plain held → IsAskedBy a size_limit line it
      → (text : Bytes) → text ≡ string_bytes held → (b : Bool) → b ≡ is_allowed store text → Passes a size_limit store line b
  plain-passes it held is h text same b told =
      by-store text b (subst (HasPlain a size_limit line) (sym same) (subst (IsAskedBy a size_limit line) is h)) (sym told)

  pub refused-passes : (it : Asked) → it ≡ Refused → IsAskedBy a size_limit line it → Passes a size_limit store line true
  refused-passes it is h = inr (subst (IsAskedBy a size_limit line) is h)

  module _ (law : ExecutableAreNotRefused a.scalars) where
    refused-keeps : (old new : X) (text : Bytes) → IsRefusedFirst a size_limit line → IsAnswer a line old text new → new ≡ old
    refused-keeps old new text first (no_request refusal h e kept) = kept
    refused-keeps old new text first (not_executed refusal h e kept) = kept
    refused-keeps old new text first (executed_to found errors h e) =
        absurd (refused-not-executed a line size_limit law first h.request h.asks h.answers.document h.answers.operation
        h.answers.executable)

    refused-leaves : (old new : X) → IsRefusedFirst a size_limit line → LeavesBroken a line old new → new ≡ old
    refused-leaves old new first (inl same) = same
    refused-leaves old new first (inr h) =
        absurd (refused-not-executed a line size_limit law first h.request h.asks h.broken.document h.broken.operation
        h.broken.executable)

    passed-answer : (old new : X) (text : Bytes) → Passes a size_limit store line true → IsAnswer a line old text new
        → IsAnswerIfAllowed a size_limit store line old text new
    passed-answer old new text (inl h) answer = served h answer
    passed-answer old new text (inr h) answer = refused_first h answer (refused-keeps old new text h answer)

    passed-breaks : (old new : X) → Passes a size_limit store line true → LeavesBroken a line old new
        → BreaksIfAllowed a size_limit store old line new
    passed-breaks old new (inl h) broken = inr (h, broken)
    passed-breaks old new (inr h) broken = inl (refused-leaves old new h broken)

    -- what the service writes behind other answers, and what it leaves where memory runs out
    module _ {A E : Type 0} (old new : X) (before after : Bytes) (b : Bool) (is : b ≡ true)
        (h : Passes a size_limit store line b) where
      pub passed : (r : Result A E)
          → OnOk r (Appends (λ text. AnswersLine a old line text new) before after)
          → OnOk r (Appends (λ text. AnswersIfAllowed a size_limit store old line text new) before after)
      passed (Ok x) k = (
        k.0,
        k.1,
        record {
          answer = passed-answer old new k.0 (subst (Passes a size_limit store line) is h) k.2.answer;
          one_line = k.2.one_line;
          distinct = k.2.distinct;
        },
      )
      passed (Err e) k = tt

      pub passed-broken : (r : Result A E) → OnErr r (BreaksAtLine a old line new)
          → OnErr r (BreaksIfAllowed a size_limit store old line new)
      passed-broken (Ok x) k = tt
      passed-broken (Err e) k = passed-breaks old new (subst (Passes a size_limit store line) is h) k

  -- what is written where it is not allowed
  pub not-passed : {A E : Type 0} (r : Result A E) (c : X) (before after : Bytes) → ValuesAreLines
      → ((errors : List RuleError) → HasDistinctKeysThroughout (refusal_response errors)) → (b : Bool) → b ≡ false
      → Passes a size_limit store line b → OnOk r (after ≡ before ++ not_allowed_line)
      → OnOk r (Appends (λ text. AnswersIfAllowed a size_limit store c line text c) before after)
  not-passed (Ok x) c before after lines distinct b is h e = (
    not_allowed_line,
    e,
    record {
      answer = not_allowed (subst (Passes a size_limit store line) is h) refl refl;
      one_line = lines (refusal_response not_allowed_error);
      distinct = record { found = refusal_response not_allowed_error; is = refl; distinct = distinct not_allowed_error };
    },
  )
  not-passed (Err e) c before after lines distinct b is h k = tt

  -- where nothing stood before, it is all that is written
  pub all-written : {A E : Type 0} (r : Result A E) (old new : X) (before after : Bytes) → before ≡ []
      → OnOk r (Appends (λ text. AnswersIfAllowed a size_limit store old line text new) before after)
      → OnOk r (AnswersIfAllowed a size_limit store old line after new)
  all-written r old new before after nothing =
      on_ok r (Appends (λ text. AnswersIfAllowed a size_limit store old line text new) before after)
      (AnswersIfAllowed a size_limit store old line after new)
      (alone (λ text. AnswersIfAllowed a size_limit store old line text new) before after nothing)
