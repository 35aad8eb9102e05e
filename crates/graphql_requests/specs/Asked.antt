-- What a request asks, and when it can be executed or is refused (GraphQL October 2021, 6.1
-- Executing Requests).
use Rattle.std.specs.Prelude.{◌≡◌, ◌⊎◌, ℕ, Bool, List, Option}
use Rattle.std.specs.declared.cmp.Ordering.{Ordering}
use Rattle.std.specs.List.Sorted.{IsSorted}
use Rattle.graphql_rule_errors.specs.declared.rule_error.RuleError.{RuleError}
use Rattle.graphql_names.specs.Names.{Bytes}
use Rattle.graphql_values.specs.InputValues.{Placed}
use Rattle.graphql_values.specs.declared.input_value.InputValue.{InputValue}
use Rattle.graphql_tree.specs.declared.document.Definition.{Definition}
use Rattle.graphql_tree.specs.declared.document.Operation.{Operation}
use Rattle.graphql_schema.specs.Declarations.{declarations_of}
use Rattle.graphql_schema.specs.declared.schema.SchemaType.{SchemaType}
use Rattle.graphql_requests.specs.Operations.{chosen}
use Rattle.graphql_requests.specs.Refusals.{IsRead, IsReady, IsStopped, IsUnread, errors_of}
use Rattle.graphql_schema.specs.Scalars.{Scalars}
use Rattle.graphql_requests.specs.declared.graphql_error.GraphQLError.{GraphQLError}
use Rattle.graphql_requests.specs.declared.graphql_error.GraphQLError.TheVariants as error

-- what a request asks of a schema: its text, the name of an operation, and the values that it gives
-- for variables
pub record Asking (S C : Type 0) : Type 0 where
  pub schema : SchemaType S C
  pub introspection_disabled : Bool
  pub text : List ℕ
  pub operation_name : Option Bytes
  pub given : Bytes → Option (InputValue S)

abbrev pub asking : {S C : Type 0} → SchemaType S C → Bool → List ℕ → Option Bytes
    → (Bytes → Option (InputValue S)) → Asking S C
asking schema introspection_disabled text name given = record {
  schema = schema;
  introspection_disabled = introspection_disabled;
  text = text;
  operation_name = name;
  given = given;
}

-- by what scalars mean
module _ {S C : Type 0} (s : Scalars S C) (a : Asking S C) where
  -- the text is this document, which is valid
  abbrev pub ReadsValid : List (Definition S) → Type 0
  ReadsValid = IsRead s (declarations_of a.schema) a.introspection_disabled a.text

  -- the text is a valid document, and of it an operation is executed
  pub record IsExecutable (document : List (Definition S))
      (operation : Placed (Operation S)) : Type 0 where
    pub read : ReadsValid document
    pub ready : IsReady s a.schema a.given (chosen a.operation_name document) operation

  -- no document is read, and what rules have against the text is told in order
  pub record IsRefusedUnread (cmp : RuleError → RuleError → Ordering)
      (refusal : GraphQLError) : Type 0 where
    pub unread : IsUnread s (declarations_of a.schema) a.introspection_disabled a.text refusal
    pub sorted : IsSorted cmp (errors_of refusal)

  -- of the document that is read no operation is executed, and what stands against the values is
  -- told in order
  pub record IsRefusedRead (cmp : RuleError → RuleError → Ordering)
      (refusal : GraphQLError) : Type 0 where
    pub document : List (Definition S)
    pub read : ReadsValid document
    pub stopped : IsStopped s a.schema a.given (chosen a.operation_name document) refusal
    pub sorted : IsSorted cmp (errors_of refusal)

  -- the first step that fails decides
  abbrev pub IsRefused : (RuleError → RuleError → Ordering) → GraphQLError → Type 0
  IsRefused cmp refusal = IsRefusedUnread cmp refusal ⊎ IsRefusedRead cmp refusal

-- ---- laws

module _ {S C : Type 0} (s : Scalars S C) where
  -- a request that can be executed is refused by nothing but want of memory
  abbrev pub ExecutableAreNotRefused : Type 0
  ExecutableAreNotRefused =
      (a : Asking S C) (document : List (Definition S)) (operation : Placed (Operation S))
      → (cmp : RuleError → RuleError → Ordering) (refusal : GraphQLError)
      → IsExecutable s a document operation → IsRefused s a cmp refusal → refusal ≡ error.Memory

  -- a request has one document and one operation
  abbrev pub OneIsExecuted : Type 0
  OneIsExecuted =
      (a : Asking S C) (document other : List (Definition S))
      (operation another : Placed (Operation S))
      → IsExecutable s a document operation → IsExecutable s a other another
      → (other ≡ document) × (another ≡ operation)
