-- What a store allows, at given texts and requests (GraphQL October 2021, 2.1.7 Ignored Tokens, 6.1
-- Executing Requests, 7.1 Response Format).
use Rattle.std.specs.Prelude.{◌≡◌, ◌↔◌, true, ℕ, List, [], Option, option_map, string_bytes}
use Rattle.std.specs.HashMap.{get_by_text}
use Rattle.std.specs.Str.{chars}
use Rattle.std.specs.declared.cmp.Ordering.{Ordering}
use Rattle.graphql_names.specs.Names.{Bytes}
use Rattle.graphql_values.specs.declared.input_value.InputValue.{InputValue}
use Rattle.graphql_output_values.specs.declared.value.Value.{Value}
use Rattle.graphql_field_results.specs.declared.execution_error.ExecutionError.{ExecutionError}
use Rattle.graphql_schema.specs.declared.root_node.RootNode.{RootNode}
use Rattle.graphql_lines.specs.declared.request.GraphQLRequest.{GraphQLRequest}
use Rattle.graphql_requests.specs.Asked.{Asking}
use Rattle.graphql_schema.specs.Scalars.{Scalars}
use Rattle.graphql_plain_requests.specs.PlainRequests.{asked_at}
use Rattle.graphql_executor.specs.Answered.{IsAnswered}
use Rattle.graphql_executor.specs.Resolvers.{Resolver}
use Rattle.graphql_stores.specs.Allowed.{IsAllowed}
use Rattle.graphql_stores.specs.Stores.{is_allowed}
use Rattle.graphql_stores.specs.declared.allowed_queries.AllowedQueries.{AllowedQueries}

-- what is asked of a root node where this text stands in the place of the request's own
abbrev pub asked_for : {S C : Type 0} → RootNode S C → GraphQLRequest S → Bytes → Asking S C
asked_for root request text =
    asked_at root (chars text) (option_map (λ name. string_bytes name) request.operation_name)
    (get_by_text request.variables)

-- by what scalars mean, and by the root node
module _ {S C : Type 0} (s : Scalars S C) (root : RootNode S C) where
  -- with one operation name and the same values for variables, requests of these texts are allowed
  -- by a store both, or neither
  abbrev pub AreAllowedAlike : Bytes → Bytes → Type 0
  AreAllowedAlike one other =
      (store : AllowedQueries) (size_limit : ℕ) (name : Option Bytes)
      (given : Bytes → Option (InputValue S))
      → IsAllowed s store size_limit (asked_at root (chars one) name given)
      ↔ IsAllowed s store size_limit (asked_at root (chars other) name given)

  -- a text of the store that is allowed in the request's place, and answered so on that context:
  -- the same data, errors in both answers or in neither, and the same context afterwards
  pub record StoredIsAnsweredSo {N X : Type 0} (r : Resolver S N X) (store : AllowedQueries)
      (size_limit : ℕ) (request : GraphQLRequest S)
      (cmp : ExecutionError S → ExecutionError S → Ordering) (old : X) (answered : Value S)
      (errors : List (ExecutionError S)) (new : X) : Type 0 where
    pub text : Bytes
    pub stored : is_allowed store text ≡ true
    pub allowed : IsAllowed s store size_limit (asked_for root request text)
    pub alike : (told : Value S) (others : List (ExecutionError S)) (after : X)
        → IsAnswered s (asked_for root request text) r cmp old told others after
        → (answered ≡ told) × ((errors ≡ []) ↔ (others ≡ [])) × (new ≡ after)
    pub without_errors : errors ≡ []
        → IsAnswered s (asked_for root request text) r cmp old answered [] new
