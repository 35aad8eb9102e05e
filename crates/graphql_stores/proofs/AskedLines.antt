-- What a line asks, by the request that it holds.
use Rattle.std.proofs.Common.{◌≡◌, ◌<◌, ◌≤◌, ℕ, length, option_map, refl, sym, subst, string_bytes, Result, Ok, Err, IfOk, OnOk}
use Rattle.std.specs.HashMap.{get_by_text}
use Rattle.std.specs.Str.{chars}
use Rattle.graphql_names.specs.Names.{Bytes}
use Rattle.graphql_executor.specs.Answered.{Asking, asking}
use Rattle.graphql_executor.specs.Requests.{GraphQLError}
use Rattle.graphql_lines.specs.Request.{HoldsRequest, Request, request_of}
use Rattle.graphql_lines.specs.Variables.{IsDue}
use Rattle.graphql_lines.specs.declared.refusal.LineRefusal.{LineRefusal}
use Rattle.graphql_lines.specs.declared.refusal.LineRefusal.TheVariants.{LineTooLong, Memory}
use Rattle.graphql_lines.specs.declared.request.GraphQLRequest.{GraphQLRequest}
use Rattle.graphql_service.specs.PlainRequests.{HasNoPlainText, IsPlainTextWithin, PlainError}
use Rattle.graphql_service.specs.PlainRequests as error
use Rattle.graphql_service.specs.Answers.{Answerer, Asks}
use Rattle.graphql_service.specs.PlainAnswers.{HasNoPlain, HasPlain}
use Rattle.graphql_service.proofs.WrittenAnswers.{as_asked, due}
use Rattle.graphql_stores.specs.Stored.{IsAskedBy, IsRefusedFirst, no_plain, no_request}
use Rattle.graphql_stores.specs.declared.asked.Asked.{Asked}
use Rattle.graphql_stores.specs.declared.asked.Asked.TheVariants.{Refused}

module _ {S C N X : Type 0} (a : Answerer S C N X) (size_limit : ℕ) (line : Bytes) where
  -- of a request that holds what the line asks
  module _ (asked : Request) (request : GraphQLRequest S)
      (holds : HoldsRequest a.scalars.of_bool a.scalars.of_int a.scalars.of_text asked request) (asks : Asks a line asked) where
    abbrev held : Asking S C
    held =
        asking a.schema a.introspection_disabled (chars (string_bytes request.query))
        (option_map (λ t. string_bytes t) request.operation_name) (get_by_text request.variables)

    pub plain-asked : (plain : Bytes) → IsPlainTextWithin a.scalars held size_limit plain → HasPlain a size_limit line plain
    plain-asked plain h = record {
      request = asked;
      asks = asks;
      is =
          as_asked a line asked request (string_bytes request.query) (option_map (λ t. string_bytes t) request.operation_name)
          holds refl refl asks (λ q. IsPlainTextWithin a.scalars q size_limit plain) h;
    }

    none-asked : (why : PlainError) → (why ≡ error.Memory → ⊥) → HasNoPlainText a.scalars held a.by_rules size_limit why
        → HasNoPlain a size_limit line why
    none-asked why told h = record {
      request = asked;
      asks = asks;
      is_told = told;
      due =
          as_asked a line asked request (string_bytes request.query) (option_map (λ t. string_bytes t) request.operation_name)
          holds refl refl asks (λ q. HasNoPlainText a.scalars q a.by_rules size_limit why) h;
    }

    pub large-asked : (told : PlainError) → told ≡ error.TooLarge → HasNoPlainText a.scalars held a.by_rules size_limit told
        → HasNoPlain a size_limit line error.TooLarge
    large-asked told is h =
        none-asked error.TooLarge (λ same. absurd (cc))
        (subst (λ why. HasNoPlainText a.scalars held a.by_rules size_limit why) is h)

    pub refused-asked : (told : PlainError) (why : GraphQLError) → told ≡ error.Refused why
        → HasNoPlainText a.scalars held a.by_rules size_limit told → IsRefusedFirst a size_limit line
    refused-asked told why is h =
        no_plain why (none-asked (error.Refused why) (λ same. absurd (cc))
        (subst (λ why. HasNoPlainText a.scalars held a.by_rules size_limit why) is h))

  pub too-long : (limit : ℕ) → limit ≡ a.limit → limit < length line → IsRefusedFirst a size_limit line
  too-long limit same longer = no_request LineTooLong (subst (λ n. n < length line) same longer)

  -- what a request asks, its line asks
  pub asked-by-request : {E : Type 0} (r : Result Asked E) (request : GraphQLRequest S) (asked : Request) → Asks a line asked
      → HoldsRequest a.scalars.of_bool a.scalars.of_int a.scalars.of_text asked request
      → IfOk r (λ it. (line : Bytes) (asked : Request) → Asks a line asked
      → HoldsRequest a.scalars.of_bool a.scalars.of_int a.scalars.of_text asked request → IsAskedBy a size_limit line it)
      → IfOk r (IsAskedBy a size_limit line)
  asked-by-request (Ok it) request asked asks holds h = h line asked asks holds
  asked-by-request (Err e) request asked asks holds h = tt

  -- a line that is no request is refused for what stands first
  pub asked-by-refusal : {E : Type 0} (r : Result Asked E) (refusal : LineRefusal) → length line ≤ a.limit
      → ((refusal ≡ Memory → ⊥)
      → IsDue a.scalars.of_bool a.scalars.of_int a.scalars.of_text (λ (q : Request). q.variables) (request_of line) refusal)
      → IfOk r (λ it. it ≡ Refused) → OnOk r (refusal ≡ Memory → ⊥) → IfOk r (IsAskedBy a size_limit line)
  asked-by-refusal (Ok it) refusal within is_due is told =
      subst (IsAskedBy a size_limit line) (sym is) (no_request refusal (due a line refusal within (is_due told)))
  asked-by-refusal (Err e) refusal within is_due is told = tt
