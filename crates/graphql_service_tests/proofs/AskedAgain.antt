-- What two calls have answered, by the laws of plain texts.
use Rattle.std.proofs.Common.{◌≡◌, ◌↔◌, sym, subst, List, [], Option, Result, Ok, Err, IfOk, IfErr}
use Rattle.std.specs.declared.cmp.Ordering.{Ordering}
use Rattle.std.specs.Str.{chars, IsUtf8}
use Rattle.graphql_names.specs.Names.{Bytes}
use Rattle.graphql_values.specs.declared.input_value.InputValue.{InputValue}
use Rattle.graphql_output_values.specs.declared.value.Value.{Value}
use Rattle.graphql_schema.specs.declared.root_node.RootNode.{RootNode}
use Rattle.graphql_field_results.specs.declared.execution_error.ExecutionError.{ExecutionError}
use Rattle.graphql_executor.specs.Answered.{IsAnswered}
use Rattle.graphql_executor.specs.Requests.{Scalars}
use Rattle.graphql_executor.specs.Resolvers.{Resolver}
use Rattle.graphql_service.specs.MeaningLaws.{PlainMeansTheSame}
use Rattle.graphql_plain_requests.specs.PlainRequests.{IsPlainText}
use Rattle.graphql_service.specs.PlainRequests.{Memory, PlainError, asked_at}
use Rattle.graphql_service_tests.specs.Responses.{IsTheSameText}

module _ {S C N X : Type 0} (s : Scalars S C) (root : RootNode S C) (r : Resolver S N X) where
  -- a request is asked as it is written (`source`, `own`), and its plain text, both on one context
  pub both-ways : PlainMeansTheSame s root r
      → (query source : Bytes) (name own : Option Bytes) (given : Bytes → Option (InputValue S))
      (text bytes : Bytes) → IsUtf8 query → query ≡ source → name ≡ own → text ≡ bytes
      → IsPlainText s (asked_at root (chars source) own given) bytes
      → (cmp : ExecutionError S → ExecutionError S → Ordering) (old other new after : X)
      (answered told : Value S) (errors others : List (ExecutionError S)) → old ≡ other
      → IsAnswered s (asked_at root (chars query) name given) r cmp old answered errors new
      → IsAnswered s (asked_at root (chars text) name given) r cmp other told others after
      → (answered ≡ told) × ((errors ≡ []) ↔ (others ≡ [])) × (new ≡ after)
  both-ways law query source name own given text bytes utf8 of_query of_name of_text plain cmp old other
      new after answered told errors others same first second =
      let one : IsAnswered s (asked_at root (chars source) own given) r cmp old answered errors new =
      subst (λ n. IsAnswered s (asked_at root (chars source) n given) r cmp old answered errors new)
      of_name
      (subst (λ q. IsAnswered s (asked_at root (chars q) name given) r cmp old answered errors new)
      of_query first) in
      let two : IsAnswered s (asked_at root (chars bytes) own given) r cmp old told others after =
      subst (λ n. IsAnswered s (asked_at root (chars bytes) n given) r cmp old told others after)
      of_name
      (subst (λ t. IsAnswered s (asked_at root (chars t) name given) r cmp old told others after)
      of_text
      (subst (λ c. IsAnswered s (asked_at root (chars text) name given) r cmp c told others after)
      (sym same) second)) in
      law source own given bytes (subst IsUtf8 of_query utf8) plain cmp old new after answered told
      errors others one two

-- what is such a text is this text, and an error that is due is want of memory
pub the-same : {A : Type 0} (bytes_of : A → Bytes) (text : Bytes) (again : Result A PlainError)
    (Is : Bytes → Type 0) (Due : PlainError → Type 0)
    → IfOk again (λ t. Is (bytes_of t)) → IfErr again Due
    → ((other : Bytes) → Is other → other ≡ text) → ((why : PlainError) → Due why → why ≡ Memory)
    → IsTheSameText bytes_of text again
the-same bytes_of text (Ok t) Is Due is due only memory = only (bytes_of t) is
the-same bytes_of text (Err e) Is Due is due only memory = memory e due
