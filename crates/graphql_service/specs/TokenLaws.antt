-- Requests whose texts have the same tokens are answered alike (GraphQL October 2021, 2.1.7 Ignored
-- Tokens, 7.1 Response Format).
use Rattle.std.specs.Prelude.{◌≡◌, ◌↔◌, List, [], Option}
use Rattle.std.specs.declared.cmp.Ordering.{Ordering}
use Rattle.std.specs.Str.{chars, IsUtf8}
use Rattle.graphql_names.specs.Names.{Bytes}
use Rattle.graphql_values.specs.declared.input_value.InputValue.{InputValue}
use Rattle.graphql_output_values.specs.declared.value.Value.{Value}
use Rattle.graphql_language.specs.Alike.{AreAlike}
use Rattle.graphql_schema.specs.declared.root_node.RootNode.{RootNode}
use Rattle.graphql_field_results.specs.declared.execution_error.ExecutionError.{ExecutionError}
use Rattle.graphql_plain_requests.specs.PlainRequests.{asked_at}
use Rattle.graphql_requests.specs.Asked.{Asking}
use Rattle.graphql_schema.specs.Scalars.{Scalars}
use Rattle.graphql_executor.specs.Answered.{IsAnswered}
use Rattle.graphql_executor.specs.Resolvers.{Resolver}
use Rattle.graphql_plain_requests.specs.Laws.{AreAskedAlike}

-- by what scalars mean, two requests, and what a resolver answers
module _ {S C N X : Type 0} (s : Scalars S C) (a b : Asking S C) (r : Resolver S N X) where
  -- they are refused at one step, or executed both, with one plain text within each limit; answered
  -- on one context they have the same data, errors in both or in neither, and leave the same
  -- context
  pub record AreAnsweredAlike : Type 0 where
    pub asked : AreAskedAlike s a b
    pub answered : (cmp : ExecutionError S → ExecutionError S → Ordering) (old new after : X)
        (answered told : Value S) (errors others : List (ExecutionError S))
        → IsAnswered s a r cmp old answered errors new → IsAnswered s b r cmp old told others after
        → (answered ≡ told) × ((errors ≡ []) ↔ (others ≡ [])) × (new ≡ after)

-- by what scalars mean, and by the root node
module _ {S C : Type 0} (s : Scalars S C) (root : RootNode S C) where
  -- texts of the same tokens, asked with one operation name and the same values for variables
  abbrev pub SameTokensSameAnswer : {N X : Type 0} → Resolver S N X → Type 0
  SameTokensSameAnswer r =
      (one other : Bytes) (name : Option Bytes) (given : Bytes → Option (InputValue S))
      → IsUtf8 one → IsUtf8 other → AreAlike (chars one) (chars other)
      → AreAnsweredAlike s (asked_at root (chars one) name given)
      (asked_at root (chars other) name given) r
