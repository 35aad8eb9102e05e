-- A stored text in the place of a request.
use Rattle.std.proofs.Common.{◌≡◌, ◌∙◌, sym, subst, true, false, ℕ, Bool, List, [], Option, option_map, string_bytes}
use Rattle.std.specs.Prelude.{◌↔◌, IfOk, IfSome, IsSome, Result}
use Rattle.std.proofs.lemmas.Bool.{false≢true}
use Rattle.std.specs.HashMap.{get_by_text}
use Rattle.std.specs.Str.{chars, IsUtf8}
use Rattle.std.specs.declared.cmp.Ordering.{Ordering}
use Rattle.graphql_names.specs.Names.{Bytes}
use Rattle.graphql_values.specs.declared.input_value.InputValue.{InputValue}
use Rattle.graphql_output_values.specs.declared.value.Value.{Value}
use Rattle.graphql_field_results.specs.declared.execution_error.ExecutionError.{ExecutionError}
use Rattle.graphql_schema.specs.declared.root_node.RootNode.{RootNode}
use Rattle.graphql_lines.specs.declared.request.GraphQLRequest.{GraphQLRequest}
use Rattle.graphql_schema.specs.Scalars.{Scalars}
use Rattle.graphql_plain_requests.specs.PlainRequests.{IsPlainTextWithin, asked_at, asked_of}
use Rattle.graphql_plain_requests.specs.Laws.{PlainTextsAreOne}
use Rattle.graphql_plain_requests.specs.StandIns.{TakesStandIn}
use Rattle.graphql_executor.specs.Answered.{IsAnswered}
use Rattle.graphql_executor.specs.Resolvers.{Resolver}
use Rattle.graphql_stores.specs.Allowed.{IsAllowed}
use Rattle.graphql_stores.specs.AllowedLaws.{StoredTextsAreAllowed, StoredTextsStandForRequests}
use Rattle.graphql_stores.specs.Stores.{is_allowed}
use Rattle.graphql_stores.specs.declared.allowed_queries.AllowedQueries.{AllowedQueries}
use Rattle.graphql_stores_tests.specs.Stored.{StoredIsAnsweredSo, asked_for}

-- a request, and a text that is its plain text: a store that has the text allows the request, and no other store does
module _ {S C : Type 0} (s : Scalars S C) (root : RootNode S C) (store : AllowedQueries) (size_limit : ℕ)
    (request : GraphQLRequest S) (text plain : Bytes) (is : IsPlainTextWithin s (asked_of root request) size_limit plain)
    (of_text : text ≡ plain) (allows : Bool) (tells : allows ≡ is_allowed store text) where
  pub request-allowed : allows ≡ true → IsAllowed s store size_limit (asked_of root request)
  request-allowed permits = record {
    plain = plain;
    is = is;
    stored = subst (λ bytes. is_allowed store bytes ≡ true) of_text (sym tells ∙ permits);
  }

  pub request-not-allowed : PlainTextsAreOne s → allows ≡ false → IsAllowed s store size_limit (asked_of root request) → ⊥
  request-not-allowed one denies h =
      let same : h.plain ≡ text = one (asked_of root request) h.plain plain h.is.plain is.plain ∙ sym of_text in
      false≢true (sym denies ∙ tells ∙ subst (λ bytes. is_allowed store bytes ≡ true) same h.stored)

-- a request, and a text that is its plain text and in a store: `query`, `text`, as the code lends them
module _ {S C : Type 0} (s : Scalars S C) (root : RootNode S C) (store : AllowedQueries) (size_limit : ℕ)
    (request : GraphQLRequest S) (query text plain : Bytes) (utf8 : IsUtf8 query) (of_query : query ≡ string_bytes request.query)
    (is : IsPlainTextWithin s (asked_of root request) size_limit plain) (of_text : text ≡ plain)
    (allows : Bool) (tells : allows ≡ is_allowed store text) (yes : allows ≡ true) where
  stored : is_allowed store plain ≡ true
  stored = subst (λ bytes. is_allowed store bytes ≡ true) of_text (sym tells ∙ yes)

  name : Option Bytes
  name = option_map (λ name. string_bytes name) request.operation_name

  pub text-allowed : StoredTextsAreAllowed s root → TakesStandIn s root.schema → IsAllowed s store size_limit (asked_for root request plain)
  unfolding name
  text-allowed law takes =
      law takes store size_limit (string_bytes request.query) name (get_by_text request.variables) plain
      (subst IsUtf8 of_query utf8) is stored

  pub text-stands : {N X : Type 0} (r : Resolver S N X) → StoredTextsStandForRequests s root r → TakesStandIn s root.schema
      → (own : Option Bytes) → own ≡ option_map (λ name. string_bytes name) request.operation_name
      → (cmp : ExecutionError S → ExecutionError S → Ordering) (old : X) (answered : Value S)
      (errors : List (ExecutionError S)) (new : X)
      → IsAnswered s (asked_at root (chars query) own (get_by_text request.variables)) r cmp old answered errors new
      → StoredIsAnsweredSo s root r store size_limit request cmp old answered errors new
  unfolding name
  text-stands {N} {X} r law takes own of_name cmp old answered errors new answer =
      let given : Bytes → Option (InputValue S) = get_by_text request.variables in
      let source = string_bytes request.query in
      let own_answer : IsAnswered s (asked_at root (chars source) name given) r cmp old answered errors new =
      subst (λ n. IsAnswered s (asked_at root (chars source) n given) r cmp old answered errors new) of_name
      (subst (λ q. IsAnswered s (asked_at root (chars q) own given) r cmp old answered errors new) of_query answer) in
      let stands =
      law takes store size_limit source name given (subst IsUtf8 of_query utf8)
      (record { plain = plain; is = is; stored = stored }) in
      record {
        text = stands.text;
        stored = stands.stored;
        allowed = stands.allowed;
        alike = λ told others after again.
            stands.same.alike cmp old new after answered told errors others own_answer again;
        without_errors = λ none.
            (stands.same.without_errors cmp old new answered).0
            (subst (λ (es : List (ExecutionError S)). IsAnswered s (asked_at root (chars source) name given) r cmp old answered es new)
            none own_answer);
      }

-- the same of parts that a service gives, which are those that it was made of
module _ {S C : Type 0} (s : Scalars S C) (root node : RootNode S C) (same : node ≡ root) (takes : TakesStandIn s root.schema)
    (store : AllowedQueries) (size_limit : ℕ) (request : GraphQLRequest S) where
  takes-too : TakesStandIn s node.schema
  takes-too = subst (λ (n : RootNode S C). TakesStandIn s n.schema) (sym same) takes

  pub exactly-over : {A E : Type 0} (result : Result (Option A) E)
      → IfOk result (λ found. IsSome found ↔ IsAllowed s store size_limit (asked_of node request))
      → IfOk result (λ found. IsSome found ↔ IsAllowed s store size_limit (asked_of root request))
  exactly-over {A} result h =
      subst (λ n. IfOk result (λ (found : Option A). IsSome found ↔ IsAllowed s store size_limit (asked_of n request))) same h

  pub plain-over : {A E : Type 0} (bytes_of : A → Bytes) (result : Result (Option A) E)
      → IfOk result (λ found. IfSome found (λ text. IsPlainTextWithin s (asked_of node request) size_limit (bytes_of text)))
      → IfOk result (λ found. IfSome found (λ text. IsPlainTextWithin s (asked_of root request) size_limit (bytes_of text)))
  plain-over {A} bytes_of result h =
      subst (λ n. IfOk result (λ (found : Option A). IfSome found (λ text. IsPlainTextWithin s (asked_of n request) size_limit (bytes_of text)))) same h

  pub allowed-over : {A E : Type 0} (bytes_of : A → Bytes) (result : Result (Option A) E)
      → (TakesStandIn s node.schema → IfOk result (λ found. IfSome found (λ text. IsAllowed s store size_limit (asked_for node request (bytes_of text)))))
      → IfOk result (λ found. IfSome found (λ text. IsAllowed s store size_limit (asked_for root request (bytes_of text))))
  allowed-over {A} bytes_of result h =
      subst (λ n. IfOk result (λ (found : Option A). IfSome found (λ text. IsAllowed s store size_limit (asked_for n request (bytes_of text))))) same (h takes-too)

  -- and of the resolver that it gives
  module _ {N X R : Type 0} (resolving : R → Resolver S N X) (given by : R) (same_by : by ≡ given)
      (cmp : ExecutionError S → ExecutionError S → Ordering) (old : X) where
    pub answered-over : {E : Type 0} (result : Result (Option (Value S × List (ExecutionError S))) E) (new : X)
        → (TakesStandIn s node.schema → IfOk result (λ found. IfSome found (λ answer.
        StoredIsAnsweredSo s node (resolving by) store size_limit request cmp old answer.0 answer.1 new)))
        → IfOk result (λ found. IfSome found (λ answer.
        StoredIsAnsweredSo s root (resolving given) store size_limit request cmp old answer.0 answer.1 new))
    answered-over {E} result new h =
        let P = λ (n : RootNode S C) (r : R). IfOk result (λ (found : Option (Value S × List (ExecutionError S))). IfSome found (λ answer.
        StoredIsAnsweredSo s n (resolving r) store size_limit request cmp old answer.0 answer.1 new)) in
        subst (λ r. P root r) same_by (subst (λ n. P n by) same (h takes-too))
