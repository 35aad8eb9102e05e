-- Laws of what a store allows: it suffices to review the texts that are stored (GraphQL October
-- 2021, 2.1.7 Ignored Tokens, 6.1 Executing Requests, 7.1 Response Format).
use Rattle.std.specs.Prelude.{◌≡◌, ◌↔◌, true, ℕ, List, [], Option}
use Rattle.std.specs.declared.cmp.Ordering.{Ordering}
use Rattle.std.specs.Str.{chars, IsUtf8}
use Rattle.graphql_names.specs.Names.{Bytes}
use Rattle.graphql_stores.specs.Stores.{is_allowed}
use Rattle.graphql_stores.specs.declared.allowed_queries.AllowedQueries.{AllowedQueries}
use Rattle.graphql_values.specs.declared.input_value.InputValue.{InputValue}
use Rattle.graphql_output_values.specs.declared.value.Value.{Value}
use Rattle.graphql_field_results.specs.declared.execution_error.ExecutionError.{ExecutionError}
use Rattle.graphql_language.specs.Alike.{AreAlike}
use Rattle.graphql_schema.specs.declared.root_node.RootNode.{RootNode}
use Rattle.graphql_requests.specs.Asked.{Asking}
use Rattle.graphql_schema.specs.Scalars.{Scalars}
use Rattle.graphql_plain_requests.specs.PlainRequests.{IsPlainTextWithin, asked_at}
use Rattle.graphql_plain_requests.specs.StandIns.{TakesStandIn}
use Rattle.graphql_executor.specs.Answered.{IsAnswered}
use Rattle.graphql_executor.specs.Resolvers.{Resolver}
use Rattle.graphql_service.specs.Answers.{Answerer}
use Rattle.graphql_stores.specs.Allowed.{IsAllowed}
use Rattle.graphql_stores.specs.Allowing.{AsksAllowed, AsksOther}
use Rattle.graphql_stores.specs.Stored.{IsRefusedFirst}

-- by what scalars mean, two requests, and what a resolver answers
module _ {S C N X : Type 0} (s : Scalars S C) (a b : Asking S C) (r : Resolver S N X) where
  -- answered on one context they have the same data, errors in both or in neither, and leave the
  -- same context; and what the one is answered without errors, the other is
  pub record MeanTheSame : Type 0 where
    pub alike : (cmp : ExecutionError S → ExecutionError S → Ordering) (old new after : X)
        (answered told : Value S) (errors others : List (ExecutionError S))
        → IsAnswered s a r cmp old answered errors new → IsAnswered s b r cmp old told others after
        → (answered ≡ told) × ((errors ≡ []) ↔ (others ≡ [])) × (new ≡ after)
    pub without_errors : (cmp : ExecutionError S → ExecutionError S → Ordering) (old new : X)
        (answered : Value S)
        → IsAnswered s a r cmp old answered [] new ↔ IsAnswered s b r cmp old answered [] new

-- by what scalars mean, and by the root node; `size_limit`: the greatest size of a plain text
module _ {S C : Type 0} (s : Scalars S C) (root : RootNode S C) where
  -- a plain text that is in the store, asked as a request, is allowed
  abbrev pub StoredTextsAreAllowed : Type 0
  StoredTextsAreAllowed =
      TakesStandIn s root.schema
      → (store : AllowedQueries) (size_limit : ℕ) (source : Bytes) (name : Option Bytes)
      (given : Bytes → Option (InputValue S)) (plain : Bytes) → IsUtf8 source
      → IsPlainTextWithin s (asked_at root (chars source) name given) size_limit plain
      → is_allowed store plain ≡ true
      → IsAllowed s store size_limit (asked_at root (chars plain) name given)

  -- requests of the same tokens are allowed alike, whatever their blanks, commas and comments
  abbrev pub SameTokensAreAllowedAlike : Type 0
  SameTokensAreAllowedAlike =
      (store : AllowedQueries) (size_limit : ℕ) (one other : Bytes) (name : Option Bytes)
      (given : Bytes → Option (InputValue S))
      → IsUtf8 one → IsUtf8 other → AreAlike (chars one) (chars other)
      → IsAllowed s store size_limit (asked_at root (chars one) name given)
      ↔ IsAllowed s store size_limit (asked_at root (chars other) name given)

  -- a text of the store that stands for a request: asked in its place, with the same operation name
  -- and the same values for variables, it is allowed and means the same
  pub record StandsFor {N X : Type 0} (r : Resolver S N X) (store : AllowedQueries) (size_limit : ℕ)
      (source : Bytes) (name : Option Bytes) (given : Bytes → Option (InputValue S)) : Type 0 where
    pub text : Bytes
    pub stored : is_allowed store text ≡ true
    pub allowed : IsAllowed s store size_limit (asked_at root (chars text) name given)
    pub same : MeanTheSame s (asked_at root (chars source) name given)
        (asked_at root (chars text) name given) r

  -- for each request that is allowed a text of the store stands
  abbrev pub StoredTextsStandForRequests : {N X : Type 0} → Resolver S N X → Type 0
  StoredTextsStandForRequests r =
      TakesStandIn s root.schema
      → (store : AllowedQueries) (size_limit : ℕ) (source : Bytes) (name : Option Bytes)
      (given : Bytes → Option (InputValue S)) → IsUtf8 source
      → IsAllowed s store size_limit (asked_at root (chars source) name given)
      → StandsFor r store size_limit source name given

-- what a line asks for is allowed, or it is not, or the line is refused first: never two of them
pub record AreToldApart {S C N X : Type 0} (a : Answerer S C N X) (size_limit : ℕ)
    (store : AllowedQueries) (line : Bytes) : Type 0 where
  pub not_other : AsksAllowed a size_limit store line → AsksOther a size_limit store line → ⊥
  pub not_refused : AsksAllowed a size_limit store line → IsRefusedFirst a size_limit line → ⊥
  pub other_not_refused : AsksOther a size_limit store line → IsRefusedFirst a size_limit line → ⊥
