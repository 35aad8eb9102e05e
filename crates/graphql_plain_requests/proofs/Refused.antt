-- Why a request is refused, or an operation not printed, is why there is no plain text.
use Rattle.std.proofs.Common.{◌≡◌, ◌≤◌, ◌<◌, ℕ, [], inl, inr, List, Result, Ok, Err, sym, subst}
use Rattle.std.specs.Prelude.{IfErr, IfOk, IsErrAnd}
use Rattle.std.specs.declared.cmp.Ordering.{Ordering}
use Rattle.std.specs.List.Sorted.{IsSorted}
use Rattle.graphql_names.specs.Names.{Bytes}
use Rattle.graphql_text.specs.Memory.{UnlessMemory}
use Rattle.graphql_text.specs.Refusals.{IsLexical, IsMemory}
use Rattle.graphql_text.specs.declared.position.Span.{Span}
use Rattle.graphql_values.specs.InputValues.{Placed}
use Rattle.graphql_grammar.specs.Input.{Fault, Located}
use Rattle.graphql_tree.specs.declared.document.Definition.{Definition}
use Rattle.graphql_tree.specs.declared.document.Operation.{Operation}
use Rattle.graphql_language.specs.Texts.{IsCut}
use Rattle.graphql_rule_errors.specs.declared.rule_error.RuleError.{RuleError}
use Rattle.graphql_plain_text.specs.PlainTexts.{plain_text}
use Rattle.graphql_plain_print.specs.Faults.{IfTooLarge}
use Rattle.graphql_plain_print.specs.declared.print_error.PrintError.{PrintError}
use Rattle.graphql_plain_print.specs.declared.print_error.PrintError.TheVariants as print
use Rattle.graphql_requests.specs.Asked.{Asking, IsExecutable, IsRefused, ReadsValid}
use Rattle.graphql_requests.specs.Operations.{chosen}
use Rattle.graphql_requests.specs.Refusals.{IsReady, IsStopped, errors_of}
use Rattle.graphql_requests.specs.Faults.{refusal_of}
use Rattle.graphql_schema.specs.Scalars.{Scalars}
use Rattle.graphql_requests.specs.declared.graphql_error.GraphQLError.{GraphQLError}
use Rattle.graphql_requests.specs.declared.graphql_error.GraphQLError.TheVariants as refusal
use Rattle.graphql_requests.proofs.FaultLemmas.{fault-told}
use Rattle.graphql_plain_requests.specs.Faults.{IsForSize, of_print, of_refusal}
use Rattle.graphql_plain_requests.specs.PlainRequests.{HasNoPlainText, IsPlainTextWithin, plain_of, size_of}
use Rattle.graphql_plain_requests.specs.declared.plain_error.PlainError.{PlainError}
use Rattle.graphql_plain_requests.specs.declared.plain_error.PlainError.TheVariants as error

-- why an operation is not printed, handed on
pub not-printed : {A : Type 0} (B : Type 0) (r : Result A PlainError) (e : PrintError) (P Q : Type 0) → IsErrAnd r (λ y. y ≡ of_print e)
    → IfTooLarge {A = B} (Err e) P → (P → Q) → IfErr r (IsForSize Q)
not-printed B (Ok x) e P Q h p f = tt
not-printed B (Err y) print.TooLarge P Q h p f = subst (IsForSize Q) (sym h) (f p)
not-printed B (Err y) print.Memory P Q h p f = subst (IsForSize Q) (sym h) tt

module _ {S C : Type 0} (s : Scalars S C) (a : Asking S C) (limit : ℕ) where
  module _ (cmp : RuleError → RuleError → Ordering) where
    pub refused-by : (why : GraphQLError) → IsRefused s a cmp why → HasNoPlainText s a cmp limit (of_refusal why)
    refused-by (refusal.ParseError fault) h = (h, λ e. cc)
    refused-by (refusal.ValidationError errors) h = (h, λ e. cc)
    refused-by refusal.NoOperationProvided h = (h, λ e. cc)
    refused-by refusal.MultipleOperationsProvided h = (h, λ e. cc)
    refused-by refusal.UnknownOperationName h = (h, λ e. cc)
    refused-by refusal.IsSubscription h = (h, λ e. cc)
    refused-by refusal.NotSubscription h = (h, λ e. cc)
    refused-by refusal.NoMutationType h = (h, λ e. cc)
    refused-by refusal.Memory h = tt

    -- the same, handed on
    pub handed-on : {A : Type 0} (r : Result A PlainError) (why : GraphQLError) → IsErrAnd r (λ y. y ≡ of_refusal why)
        → IsRefused s a cmp why → IfErr r (HasNoPlainText s a cmp limit)
    handed-on (Ok x) why h refused = tt
    handed-on (Err e) why h refused = subst (HasNoPlainText s a cmp limit) (sym h) (refused-by why refused)

    -- a lexical fault refuses the request
    pub lexical-refuses : (fault : Fault) → UnlessMemory IsMemory fault (IsLexical a.text fault) → IsSorted cmp []
        → HasNoPlainText s a cmp limit (of_refusal (refusal_of fault))
    lexical-refuses fault h sorted =
        fault-told (IsLexical a.text) (λ why. HasNoPlainText s a cmp limit (of_refusal why))
        (λ f lexical. refused-by (refusal.ParseError f) (inl (record { unread = inl lexical; sorted = sorted }))) tt fault.item fault h

  -- the document that is read, by another name
  pub executable-at : (document lent : List (Definition S)) → lent ≡ document → ReadsValid s a document → (operation : Placed (Operation S))
      → IsReady s a.schema a.given (chosen a.operation_name lent) operation → IsExecutable s a lent operation
  executable-at document lent same read operation ready =
      record { read = subst (λ (d : List (Definition S)). ReadsValid s a d) (sym same) read; ready = ready }

  pub stopped-at : (cmp : RuleError → RuleError → Ordering) (document lent : List (Definition S)) → lent ≡ document → ReadsValid s a document
      → (why : GraphQLError) → IsStopped s a.schema a.given (chosen a.operation_name lent) why → IsSorted cmp (errors_of why)
      → IsRefused s a cmp why
  stopped-at cmp document lent same read why stopped sorted =
      inr (record {
        document = lent;
        read = subst (λ (d : List (Definition S)). ReadsValid s a d) (sym same) read;
        stopped = stopped;
        sorted = sorted;
      })

  -- of an operation that is executed
  module _ (document : List (Definition S)) (operation : Placed (Operation S)) (executable : IsExecutable s a document operation) where
    pub printed : {A E : Type 0} (bytes_of : A → Bytes) (r : Result A E) (tokens : List Located) (finish : Span) → IsCut a.text tokens finish
        → IfOk r (λ x. (bytes_of x ≡ plain_text tokens (plain_of s a document operation.item)) × (size_of s a document operation.item ≤ limit))
        → IfOk r (λ x. IsPlainTextWithin s a limit (bytes_of x))
    printed bytes_of (Err e) tokens finish cut h = tt
    printed bytes_of (Ok x) tokens finish cut h = record {
      plain = record {
        document = document;
        operation = operation;
        executable = executable;
        tokens = tokens;
        finish = finish;
        cut = cut;
        is = h.0;
      };
      fits = h.1;
    }

    pub larger : {A : Type 0} (cmp : RuleError → RuleError → Ordering) (r : Result A PlainError)
        → IfErr r (IsForSize (limit < size_of s a document operation.item)) → IfErr r (HasNoPlainText s a cmp limit)
    larger cmp (Ok x) h = tt
    larger cmp (Err (error.Refused why)) h = absurd h
    larger cmp (Err error.TooLarge) h =
        record { document = document; operation = operation; executable = executable; larger = h }
    larger cmp (Err error.Memory) h = tt
