-- A request and its plain text mean the same (GraphQL October 2021, 6.1 Executing Requests,
-- 7.1 Response Format).
use Rattle.std.specs.Prelude.{◌≡◌, ◌↔◌, List, [], Option}
use Rattle.std.specs.declared.cmp.Ordering.{Ordering}
use Rattle.std.specs.Str.{chars, IsUtf8}
use Rattle.graphql_names.specs.Names.{Bytes}
use Rattle.graphql_values.specs.declared.input_value.InputValue.{InputValue}
use Rattle.graphql_output_values.specs.declared.value.Value.{Value}
use Rattle.graphql_schema.specs.declared.root_node.RootNode.{RootNode}
use Rattle.graphql_field_results.specs.declared.execution_error.ExecutionError.{ExecutionError}
use Rattle.graphql_plain_requests.specs.AcceptedAgain.{AreEqualOn, used_by}
use Rattle.graphql_plain_requests.specs.PlainRequests.{IsPlainText, asked_at}
use Rattle.graphql_plain_requests.specs.StandIns.{TakesStandIn}
use Rattle.graphql_schema.specs.Scalars.{Scalars}
use Rattle.graphql_executor.specs.Answered.{IsAnswered}
use Rattle.graphql_executor.specs.Resolvers.{Resolver}

-- by what scalars mean, and by the root node
module _ {S C : Type 0} (s : Scalars S C) (root : RootNode S C) where
  -- where a request and its plain text, with the same operation name and the same values for
  -- variables, are answered on one context, the data are the same, there are errors in both or in
  -- neither, and the same context is left
  abbrev pub PlainMeansTheSame : {N X : Type 0} → Resolver S N X → Type 0
  PlainMeansTheSame {N} {X} r =
      (source : Bytes) (name : Option Bytes) (given : Bytes → Option (InputValue S))
      (bytes : Bytes) → IsUtf8 source
      → IsPlainText s (asked_at root (chars source) name given) bytes
      → (cmp : ExecutionError S → ExecutionError S → Ordering) (old new after : X)
      (answered told : Value S) (errors others : List (ExecutionError S))
      → IsAnswered s (asked_at root (chars source) name given) r cmp old answered errors new
      → IsAnswered s (asked_at root (chars bytes) name given) r cmp old told others after
      → (answered ≡ told) × ((errors ≡ []) ↔ (others ≡ [])) × (new ≡ after)

  -- what is answered without errors to a request is answered to its plain text, with the same
  -- operation name and the same values for the variables that the plain text uses, and the other
  -- way round: the same data, and the same context after
  abbrev pub PlainIsAnsweredAlike : {N X : Type 0} → Resolver S N X → Type 0
  PlainIsAnsweredAlike {N} {X} r =
      TakesStandIn s root.schema
      → (source : Bytes) (name : Option Bytes) (given others : Bytes → Option (InputValue S))
      (bytes : Bytes) → IsUtf8 source
      → (text : IsPlainText s (asked_at root (chars source) name given) bytes)
      → AreEqualOn given others (used_by s given text.document text.operation.item)
      → (cmp : ExecutionError S → ExecutionError S → Ordering) (old new : X) (answered : Value S)
      → IsAnswered s (asked_at root (chars source) name given) r cmp old answered [] new
      ↔ IsAnswered s (asked_at root (chars bytes) name others) r cmp old answered [] new

  -- and so it is with the same values for all variables
  abbrev pub PlainIsAnsweredToo : {N X : Type 0} → Resolver S N X → Type 0
  PlainIsAnsweredToo {N} {X} r =
      TakesStandIn s root.schema
      → (source : Bytes) (name : Option Bytes) (given : Bytes → Option (InputValue S))
      (bytes : Bytes) → IsUtf8 source
      → IsPlainText s (asked_at root (chars source) name given) bytes
      → (cmp : ExecutionError S → ExecutionError S → Ordering) (old new : X) (answered : Value S)
      → IsAnswered s (asked_at root (chars source) name given) r cmp old answered [] new
      ↔ IsAnswered s (asked_at root (chars bytes) name given) r cmp old answered [] new
