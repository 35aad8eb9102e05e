-- What a request is refused for, step by step (GraphQL October 2021, 6.1 Executing Requests).
use Rattle.std.specs.Prelude.{◌≡◌, ℕ, Bool, List, [], Option, Result, Ok, Err}
use Rattle.graphql_names.specs.Names.{Bytes}
use Rattle.graphql_values.specs.InputValues.{Placed}
use Rattle.graphql_values.specs.declared.input_value.InputValue.{InputValue}
use Rattle.graphql_tree.specs.Documents.{variables_in}
use Rattle.graphql_tree.specs.declared.document.Definition.{Definition}
use Rattle.graphql_tree.specs.declared.document.Operation.{Operation}
use Rattle.graphql_tree.specs.declared.document.OperationType.{OperationType}
use Rattle.graphql_schema.specs.Declarations.{Declarations}
use Rattle.graphql_schema.specs.declared.schema.SchemaType.{SchemaType}
use Rattle.graphql_rule_errors.specs.Places.{places}
use Rattle.graphql_rule_errors.specs.declared.rule_error.RuleError.{RuleError}
use Rattle.graphql_language.specs.Texts.{IsDocument, IsRefused, OnlyDocument}
use Rattle.graphql_variable_checks.specs.Accepted.{AreAccepted, ValuesTold}
use Rattle.graphql_visitors.specs.Subjects.{Subject}
use Rattle.graphql_validation.specs.AllRules.{IsValidAt, RequestTold}
use Rattle.graphql_requests.specs.Operations.{mutation_root}
use Rattle.graphql_schema.specs.Scalars.{Scalars}
use Rattle.graphql_requests.specs.declared.graphql_error.GraphQLError.{GraphQLError}
use Rattle.graphql_requests.specs.declared.graphql_error.GraphQLError.TheVariants as error

-- the errors of rules or of values that a refusal tells, if it tells any
abbrev pub errors_of : GraphQLError → List RuleError
errors_of (error.ValidationError errors) = errors
errors_of _ = []

-- by what scalars mean, and by a schema: the document is valid
abbrev pub IsValidIn : {S C : Type 0} → Scalars S C → Declarations S C → Bool → List (Definition S)
    → Type 0
IsValidIn s schema introspection_disabled document =
    IsValidAt s (record { schema = schema; document = document })
    introspection_disabled

-- the text spells this document and no other
pub record IsOnly {S C : Type 0} (s : Scalars S C) (text : List ℕ)
    (document : List (Definition S)) : Type 0 where
  pub spelled : IsDocument S s.reads s.of_bool text document
  pub alone : OnlyDocument S s.reads s.of_bool text document

-- by what scalars mean, and by a schema: each document that a text spells is valid
abbrev pub IsValidText : {S C : Type 0} → Scalars S C → Declarations S C → Bool → List ℕ → Type 0
IsValidText {S} s schema introspection_disabled text =
    (document : List (Definition S)) → IsDocument S s.reads s.of_bool text document
    → IsValidIn s schema introspection_disabled document

-- by what scalars mean, and by a schema: what a text is as a request
module _ {S C : Type 0} (s : Scalars S C) (schema : Declarations S C)
    (introspection_disabled : Bool) (text : List ℕ) where
  abbrev subject_with : List (Definition S) → Subject S C
  subject_with document = record { schema = schema; document = document }

  -- the text spells this document and no other, and the document is valid
  pub record IsRead (document : List (Definition S)) : Type 0 where
    pub spelled : IsDocument S s.reads s.of_bool text document
    pub alone : OnlyDocument S s.reads s.of_bool text document
    pub valid : IsValidIn s schema introspection_disabled document

  -- the text spells a document, and rules have this against it
  pub record IsInvalid (errors : List RuleError) : Type 0 where
    pub document : List (Definition S)
    pub spelled : IsDocument S s.reads s.of_bool text document
    pub alone : OnlyDocument S s.reads s.of_bool text document
    pub told : RequestTold s (subject_with document) introspection_disabled
        (places errors)
    pub at_least_one : errors ≡ [] → ⊥

  -- why the request is not read; want of memory tells nothing
  abbrev pub IsUnread : GraphQLError → Type 0
  IsUnread (error.ParseError fault) = IsRefused S s.reads s.of_bool text fault
  IsUnread (error.ValidationError errors) = IsInvalid errors
  IsUnread error.Memory = Unit {0}
  IsUnread _ = ⊥

-- why an operation of a type is not executed, by the schema's root for mutations; want of memory
-- tells nothing
abbrev pub IsNotServed : Option Bytes → OperationType → GraphQLError → Type 0
IsNotServed root type error.Memory = Unit {0}
IsNotServed root type refusal = mutation_root root type ≡ Err refusal

-- by what scalars mean, a schema, and the value that the request gives for each name
module _ {S C : Type 0} (s : Scalars S C) (schema : SchemaType S C)
    (given : Bytes → Option (InputValue S)) where
  -- each variable of the operation accepts what is given for it
  abbrev pub TakesValues : Placed (Operation S) → Type 0
  TakesValues operation =
      AreAccepted s schema.types given
      (variables_in operation.item.variable_definitions)

  -- the operation is chosen, takes the values, and is executed: `root` is its root, of a mutation
  pub record IsReady (choice : Result (Placed (Operation S)) GraphQLError)
      (operation : Placed (Operation S)) : Type 0 where
    pub chosen : choice ≡ Ok operation
    pub takes_values : TakesValues operation
    pub root : Option Bytes
    pub served : mutation_root schema.mutation operation.item.operation_type ≡ Ok root

  -- what is said of the values that are given for variables
  pub record AreRefused (operation : Placed (Operation S)) (errors : List RuleError) : Type 0 where
    pub told : ValuesTold s schema.types given
        (variables_in operation.item.variable_definitions) (places errors)
    pub at_least_one : errors ≡ [] → ⊥

  -- why an operation is not executed: values first, then what it does; want of memory tells nothing
  abbrev pub IsHeld : Placed (Operation S) → GraphQLError → Type 0
  IsHeld operation (error.ValidationError errors) = AreRefused operation errors
  IsHeld operation error.Memory = Unit {0}
  IsHeld operation refusal =
      TakesValues operation
      × (mutation_root schema.mutation operation.item.operation_type ≡ Err refusal)

  -- why a request is not executed: none is chosen, or the one that is chosen is not executed
  abbrev pub IsStopped : Result (Placed (Operation S)) GraphQLError → GraphQLError → Type 0
  IsStopped (Ok operation) refusal = IsHeld operation refusal
  IsStopped (Err wanted) refusal = refusal ≡ wanted
