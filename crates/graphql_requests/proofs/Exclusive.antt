-- A request that can be executed is refused by nothing but want of memory, and one operation is executed.
use Rattle.std.proofs.Common.{◌≡◌, inl, inr, List, [], ◌∷◌, Result, Ok, Err, ap, ◌∙◌, sym, refl, subst}
use Rattle.std.specs.declared.cmp.Ordering.{Ordering}
use Rattle.graphql_values.specs.InputValues.{Placed}
use Rattle.graphql_tree.specs.Documents.{variables_in}
use Rattle.graphql_tree.specs.declared.document.Definition.{Definition}
use Rattle.graphql_tree.specs.declared.document.Operation.{Operation}
use Rattle.graphql_schema.specs.Declarations.{declarations_of}
use Rattle.graphql_rule_errors.specs.Places.{places}
use Rattle.graphql_rule_errors.specs.declared.rule_error.RuleError.{RuleError}
use Rattle.graphql_visitors.specs.Subjects.{Subject}
use Rattle.graphql_language.proofs.TextLaws.{not_both}
use Rattle.graphql_variable_checks.proofs.RefusalLemmas.{told_one, told_none}
use Rattle.graphql_variable_checks.proofs.Sorted.{none_moved}
use Rattle.graphql_validation.proofs.AllRulesLemmas.{root_exactly}
use Rattle.graphql_requests.specs.Operations.{chosen, mutation_root}
use Rattle.graphql_requests.specs.Refusals.{AreRefused, IsReady, IsStopped, IsHeld, IsUnread}
use Rattle.graphql_schema.specs.Scalars.{Scalars}
use Rattle.graphql_validation.specs.AllRules.{RequestTold}
use Rattle.graphql_requests.specs.declared.graphql_error.GraphQLError.{GraphQLError}
use Rattle.graphql_requests.specs.declared.graphql_error.GraphQLError.TheVariants as error
use Rattle.graphql_requests.specs.Asked.{Asking, IsExecutable, IsRefused, ReadsValid}

no-places : (errors : List RuleError) → places errors ≡ [] → errors ≡ []
no-places [] e = refl
no-places (x ∷ xs) e = absurd (cc)

abbrev pub from-ok : {A E : Type 0} → A → Result A E → A
from-ok d (Ok x) = x
from-ok d (Err e) = d

-- no result is both
not-refused : {A E : Type 0} (r : Result A E) (x : A) (e : E) → r ≡ Ok x → r ≡ Err e → ⊥
not-refused r x e a b = cc

module _ {S C : Type 0} (s : Scalars S C) (a : Asking S C) where
  abbrev subject_of : List (Definition S) → Subject S C
  subject_of document = record { schema = declarations_of a.schema; document = document }

  unread : (document : List (Definition S)) → ReadsValid s a document → (e : GraphQLError)
      → IsUnread s (declarations_of a.schema) a.introspection_disabled a.text e → e ≡ error.Memory
  unread document h (error.ParseError fault) u =
      absurd (not_both s.reads s.of_bool a.text document fault h.spelled u)
  unread document h (error.ValidationError errors) u =
      let same : u.document ≡ document = h.alone u.document u.spelled in
      let told = subst (λ (d : List (Definition S)). RequestTold s (subject_of d) a.introspection_disabled (places errors)) same u.told in
      absurd (u.at_least_one (no-places errors ((root_exactly s (subject_of document) a.introspection_disabled (places errors) told).1 h.valid)))
  unread document h error.NoOperationProvided u = absurd u
  unread document h error.MultipleOperationsProvided u = absurd u
  unread document h error.UnknownOperationName u = absurd u
  unread document h error.IsSubscription u = absurd u
  unread document h error.NotSubscription u = absurd u
  unread document h error.NoMutationType u = absurd u
  unread document h error.Memory u = refl

  module _ (choice : Result (Placed (Operation S)) GraphQLError) (operation : Placed (Operation S))
      (r : IsReady s a.schema a.given choice operation) where
    unserved : (e : GraphQLError) → mutation_root a.schema.mutation operation.item.operation_type ≡ Err e → ⊥
    unserved e u = not-refused (mutation_root a.schema.mutation operation.item.operation_type) r.root e r.served u

    values : (errors : List RuleError) → AreRefused s a.schema a.given operation errors → ⊥
    values errors u =
        let defs = variables_in operation.item.variable_definitions in
        let none = (told_none s a.schema.types a.given defs).1 r.takes_values in
        let told = told_one s a.schema.types a.given defs u.told.0 [] u.told.1 none in
        u.at_least_one (no-places errors ((none_moved u.told.0 (places errors) u.told.2).0 told))

    held : (e : GraphQLError) → IsHeld s a.schema a.given operation e → e ≡ error.Memory
    held (error.ValidationError errors) u = absurd (values errors u)
    held error.IsSubscription u = absurd (unserved error.IsSubscription u.1)
    held error.NoMutationType u = absurd (unserved error.NoMutationType u.1)
    held (error.ParseError fault) u = absurd (unserved (error.ParseError fault) u.1)
    held error.NoOperationProvided u = absurd (unserved error.NoOperationProvided u.1)
    held error.MultipleOperationsProvided u = absurd (unserved error.MultipleOperationsProvided u.1)
    held error.UnknownOperationName u = absurd (unserved error.UnknownOperationName u.1)
    held error.NotSubscription u = absurd (unserved error.NotSubscription u.1)
    held error.Memory u = refl

  stopped : (document : List (Definition S)) (operation : Placed (Operation S))
      → IsReady s a.schema a.given (chosen a.operation_name document) operation
      → (e : GraphQLError) → IsStopped s a.schema a.given (chosen a.operation_name document) e → e ≡ error.Memory
  stopped document operation r e u =
      held (chosen a.operation_name document) operation r e
      (subst (λ (c : Result (Placed (Operation S)) GraphQLError). IsStopped s a.schema a.given c e) r.chosen u)

  pub exclusive : (document : List (Definition S)) (operation : Placed (Operation S))
      → (cmp : RuleError → RuleError → Ordering) (e : GraphQLError)
      → IsExecutable s a document operation → IsRefused s a cmp e → e ≡ error.Memory
  exclusive document operation cmp e h (inl u) = unread document h.read e u.unread
  exclusive document operation cmp e h (inr u) =
      let same : u.document ≡ document = h.read.alone u.document u.read.spelled in
      stopped document operation h.ready e
      (subst (λ (d : List (Definition S)). IsStopped s a.schema a.given (chosen a.operation_name d) e) same u.stopped)

  -- a request has one document and one operation
  pub one-executed : (document other : List (Definition S)) (operation another : Placed (Operation S))
      → IsExecutable s a document operation → IsExecutable s a other another
      → (other ≡ document) × (another ≡ operation)
  one-executed document other operation another x y =
      let same : other ≡ document = x.read.alone other y.read.spelled in
      let chosen-same : chosen a.operation_name other ≡ chosen a.operation_name document =
      ap (λ (d : List (Definition S)). chosen a.operation_name d) same in
      (same, ap (from-ok operation) (sym y.ready.chosen ∙ chosen-same ∙ x.ready.chosen))
