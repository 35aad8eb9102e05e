-- A refusal is one at the first step that fails.
use Rattle.std.proofs.Common.{◌≡◌, ◌⊎◌, inl, inr, refl, sym, ◌∙◌, ap, subst, List, [], ◌∷◌, Result, Ok, Err}
use Rattle.std.specs.declared.cmp.Ordering.{Ordering}
use Rattle.graphql_values.specs.InputValues.{Placed}
use Rattle.graphql_tree.specs.Documents.{variables_in}
use Rattle.graphql_tree.specs.declared.document.Definition.{Definition}
use Rattle.graphql_tree.specs.declared.document.Operation.{Operation}
use Rattle.graphql_rule_errors.specs.Places.{places}
use Rattle.graphql_rule_errors.specs.declared.rule_error.RuleError.{RuleError}
use Rattle.graphql_schema.specs.Declarations.{declarations_of}
use Rattle.graphql_language.proofs.TextLaws.{not_both}
use Rattle.graphql_visitors.specs.Subjects.{Subject}
use Rattle.graphql_variable_checks.proofs.RefusalLemmas.{told_none, told_one}
use Rattle.graphql_variable_checks.proofs.Sorted.{none_moved}
use Rattle.graphql_validation.proofs.AllRulesLemmas.{root_exactly}
use Rattle.graphql_requests.specs.Asked.{Asking, IsExecutable, IsRefused, ReadsValid}
use Rattle.graphql_requests.specs.Operations.{chosen, mutation_root}
use Rattle.graphql_requests.specs.Refusals.{AreRefused, IsHeld, IsOnly, IsStopped, IsUnread, IsValidIn, TakesValues}
use Rattle.graphql_schema.specs.Scalars.{Scalars}
use Rattle.graphql_requests.specs.declared.graphql_error.GraphQLError.{GraphQLError}
use Rattle.graphql_requests.specs.declared.graphql_error.GraphQLError.TheVariants as error
use Rattle.graphql_requests.proofs.Exclusive.{from-ok}
use Rattle.graphql_requests.specs.Steps.{ExecutedAreAtNoStep, IsRefusedAt, OneStepRefuses, RefusalsHaveSteps, RequestStep, Tells, choice, coercion, no_document, not_chosen, not_served, not_valid, parsing, serving, takes_not, validation}

no-places : (errors : List RuleError) → places errors ≡ [] → errors ≡ []
no-places [] e = refl
no-places (x ∷ xs) e = absurd (cc)

-- no result is both
not-refused : {A E : Type 0} (r : Result A E) (x : A) (e : E) → r ≡ Ok x → r ≡ Err e → ⊥
not-refused r x e a b = cc

abbrev from-err : {A E : Type 0} → E → Result A E → E
from-err d (Ok x) = d
from-err d (Err e) = e

module _ {S C : Type 0} (s : Scalars S C) (a : Asking S C) where
  abbrev subject_of : List (Definition S) → Subject S C
  subject_of document = record { schema = declarations_of a.schema; document = document }

  abbrev At : GraphQLError → Type 0
  At why = (why ≡ error.Memory) ⊎ ((step : RequestStep) × IsRefusedAt s a step × Tells why step)

  -- ---- a refusal is at a step

  of-unread : (why : GraphQLError) → IsUnread s (declarations_of a.schema) a.introspection_disabled
      a.text why → At why
  of-unread (error.ParseError fault) u = inr (parsing, no_document fault u, (fault, refl))
  of-unread (error.ValidationError errors) u =
      inr (
        validation,
        not_valid u.document (record { spelled = u.spelled; alone = u.alone })
            (λ valid.
            u.at_least_one (no-places errors ((root_exactly s
            (subject_of u.document) a.introspection_disabled (places errors) u.told).1 valid))),
        (errors, refl),
      )
  of-unread error.NoOperationProvided u = absurd u
  of-unread error.MultipleOperationsProvided u = absurd u
  of-unread error.UnknownOperationName u = absurd u
  of-unread error.IsSubscription u = absurd u
  of-unread error.NotSubscription u = absurd u
  of-unread error.NoMutationType u = absurd u
  of-unread error.Memory u = inl refl

  module _ (document : List (Definition S)) (read : ReadsValid s a document) where
    module _ (o : Placed (Operation S)) (is : chosen a.operation_name document ≡ Ok o) where
      values-refused : (errors : List RuleError) → AreRefused s a.schema a.given o errors
          → TakesValues s a.schema a.given o → ⊥
      values-refused errors u takes =
          let defs = variables_in o.item.variable_definitions in
          let none = (told_none s a.schema.types a.given defs).1 takes in
          let told = told_one s a.schema.types a.given defs u.told.0 [] u.told.1
          none in
          u.at_least_one (no-places errors ((none_moved u.told.0 (places errors) u.told.2).0 told))

      served : (why : GraphQLError) → TakesValues s a.schema a.given o
          × (mutation_root a.schema.mutation o.item.operation_type ≡ Err why)
          → IsRefusedAt s a (serving why)
      served why u = not_served document o why read is u.0 u.1

      -- what says why it is not served is no fault of a text
      of-held : (why : GraphQLError) → IsHeld s a.schema a.given o why → At why
      of-held (error.ValidationError errors) u =
          inr (coercion, takes_not document o read is (values-refused errors u), (errors, refl))
      of-held error.Memory u = inl refl
      of-held error.IsSubscription u = inr (
        serving error.IsSubscription,
        served
            error.IsSubscription u,
        refl,
      )
      of-held error.NoMutationType u = inr (
        serving error.NoMutationType,
        served
            error.NoMutationType u,
        refl,
      )
      of-held error.NoOperationProvided u = inr
          (serving error.NoOperationProvided, served error.NoOperationProvided u, refl)
      of-held error.MultipleOperationsProvided u =
          inr (
            serving error.MultipleOperationsProvided,
            served error.MultipleOperationsProvided u,
            refl,
          )
      of-held error.UnknownOperationName u = inr
          (serving error.UnknownOperationName, served error.UnknownOperationName u, refl)
      of-held error.NotSubscription u = inr (
        serving error.NotSubscription,
        served
            error.NotSubscription u,
        refl,
      )
      of-held (error.ParseError fault) u = inr
          (serving (error.ParseError fault), served (error.ParseError fault) u, refl)

    of-stopped : (c : Result (Placed (Operation S)) GraphQLError) → chosen a.operation_name document
        ≡ c → (why : GraphQLError) → IsStopped s a.schema a.given c why → At why
    of-stopped (Ok o) is why u = of-held o is why u
    of-stopped (Err wanted) is why u = inr (choice wanted, not_chosen document wanted read is, u)

  of-refused : (cmp : RuleError → RuleError → Ordering) (why : GraphQLError) → IsRefused s a cmp why
      → At why
  of-refused cmp why (inl u) = of-unread why u.unread
  of-refused cmp why (inr u) = of-stopped u.document u.read (chosen a.operation_name u.document)
      refl why u.stopped

  -- ---- what is executed is refused at no step

  not-refused-at : (document : List (Definition S)) (o : Placed (Operation S))
      → IsExecutable s a document o → (step : RequestStep) → IsRefusedAt s a step → ⊥
  not-refused-at document o x _ (no_document fault r) = not_both s.reads s.of_bool a.text document
      fault x.read.spelled r
  not-refused-at document o x _ (not_valid d only invalid) =
      invalid (subst (λ (z : List (Definition S)). IsValidIn s (declarations_of a.schema)
      a.introspection_disabled z) (only.alone document x.read.spelled) x.read.valid)
  not-refused-at document o x _ (not_chosen d why read is) =
      not-refused (chosen a.operation_name document) o why x.ready.chosen
      (ap (λ (z : List (Definition S)). chosen a.operation_name z)
      (read.alone document x.read.spelled) ∙ is)
  not-refused-at document o x _ (takes_not d p read is takes) =
      takes (subst (λ (z : Placed (Operation S)). TakesValues s a.schema a.given z)
      (ap (from-ok o) (sym x.ready.chosen ∙ ap (λ (z : List (Definition S)).
      chosen a.operation_name z) (read.alone document x.read.spelled) ∙ is)) x.ready.takes_values)
  not-refused-at document o x _ (not_served d p why read is takes unserved) =
      let same : o ≡ p = ap (from-ok o) (sym x.ready.chosen
      ∙ ap (λ (z : List (Definition S)). chosen a.operation_name z)
      (read.alone document x.read.spelled) ∙ is) in
      not-refused (mutation_root a.schema.mutation o.item.operation_type) x.ready.root why
      x.ready.served
      (ap (λ (z : Placed (Operation S)). mutation_root a.schema.mutation z.item.operation_type) same
      ∙ unserved)

  -- ---- a request is refused at one step

  same-document : (d e : List (Definition S)) → ReadsValid s a d → ReadsValid s a e → d ≡ e
  same-document d e read other = other.alone d read.spelled

  choices : (d e : List (Definition S)) → ReadsValid s a d → ReadsValid s a e → chosen a.operation_name d
      ≡ chosen a.operation_name e
  choices d e read other = ap (λ (z : List (Definition S)). chosen a.operation_name z)
      (same-document d e read other)

  -- a document that is read is valid, and so not one that is not
  valid-not : (d e : List (Definition S)) → ReadsValid s a d → IsOnly s a.text e
      → (IsValidIn s (declarations_of a.schema) a.introspection_disabled e → ⊥) → ⊥
  valid-not d e read only invalid =
      invalid (subst (λ (z : List (Definition S)). IsValidIn s (declarations_of a.schema)
      a.introspection_disabled z) (only.alone d read.spelled) read.valid)

  one-chosen : (d e : List (Definition S)) (o p : Placed (Operation S)) → ReadsValid s a d → ReadsValid s a e
      → chosen a.operation_name d ≡ Ok o → chosen a.operation_name e ≡ Ok p → o ≡ p
  one-chosen d e o p read other is again = ap (from-ok o) (sym is ∙ choices d e read other ∙ again)

  not-chosen-too : (d e : List (Definition S)) (o : Placed (Operation S)) (why : GraphQLError)
      → ReadsValid s a d → ReadsValid s a e
      → chosen a.operation_name d ≡ Ok o → chosen a.operation_name e ≡ Err why → ⊥
  not-chosen-too d e o why read other is again = not-refused (chosen a.operation_name d) o why is
      (choices d e read other ∙ again)

  takes-too : (o p : Placed (Operation S)) → o ≡ p → TakesValues s a.schema a.given o
      → TakesValues s a.schema a.given p
  takes-too o p same = subst (λ (z : Placed (Operation S)). TakesValues s a.schema a.given z) same

  one-step : (x y : RequestStep) → IsRefusedAt s a x → IsRefusedAt s a y → x ≡ y
  one-step _ _ (no_document f r) (no_document g t) = refl
  one-step _ _ (no_document f r) (not_valid e only h) =
      absurd (not_both s.reads s.of_bool a.text e f only.spelled r)
  one-step _ _ (no_document f r) (not_chosen e w read is) =
      absurd (not_both s.reads s.of_bool a.text e f read.spelled r)
  one-step _ _ (no_document f r) (takes_not e p read is h) =
      absurd (not_both s.reads s.of_bool a.text e f read.spelled r)
  one-step _ _ (no_document f r) (not_served e p w read is h u) =
      absurd (not_both s.reads s.of_bool a.text e f read.spelled r)
  one-step _ _ (not_valid d only h) (no_document g t) =
      absurd (not_both s.reads s.of_bool a.text d g only.spelled t)
  one-step _ _ (not_valid d only h) (not_valid e other i) = refl
  one-step _ _ (not_valid d only h) (not_chosen e w read is) = absurd (valid-not e d read only h)
  one-step _ _ (not_valid d only h) (takes_not e p read is i) = absurd (valid-not e d read only h)
  one-step _ _ (not_valid d only h) (not_served e p w read is i u) =
      absurd (valid-not e d read only h)
  one-step _ _ (not_chosen d v read is) (no_document g t) =
      absurd (not_both s.reads s.of_bool a.text d g read.spelled t)
  one-step _ _ (not_chosen d v read is) (not_valid e other i) = absurd (valid-not d e read other i)
  one-step _ _ (not_chosen d v read is) (not_chosen e w other again) =
      ap choice (ap (from-err v) (sym is ∙ choices d e read other ∙ again))
  one-step _ _ (not_chosen d v read is) (takes_not e p other again i) =
      absurd (not-chosen-too e d p v other read again is)
  one-step _ _ (not_chosen d v read is) (not_served e p w other again i u) =
      absurd (not-chosen-too e d p v other read again is)
  one-step _ _ (takes_not d o read is h) (no_document g t) =
      absurd (not_both s.reads s.of_bool a.text d g read.spelled t)
  one-step _ _ (takes_not d o read is h) (not_valid e other i) = absurd (valid-not d e read other i)
  one-step _ _ (takes_not d o read is h) (not_chosen e w other again) =
      absurd (not-chosen-too d e o w read other is again)
  one-step _ _ (takes_not d o read is h) (takes_not e p other again i) = refl
  one-step _ _ (takes_not d o read is h) (not_served e p w other again i u) =
      absurd (h (takes-too p o (one-chosen e d p o other read again is) i))
  one-step _ _ (not_served d o v read is h r) (no_document g t) =
      absurd (not_both s.reads s.of_bool a.text d g read.spelled t)
  one-step _ _ (not_served d o v read is h r) (not_valid e other i) =
      absurd (valid-not d e read other i)
  one-step _ _ (not_served d o v read is h r) (not_chosen e w other again) =
      absurd (not-chosen-too d e o w read other is again)
  one-step _ _ (not_served d o v read is h r) (takes_not e p other again i) =
      absurd (i (takes-too o p (one-chosen d e o p read other is again) h))
  one-step _ _ (not_served d o v read is h r) (not_served e p w other again i u) =
      ap serving (ap (from-err v) (sym r ∙ ap (λ (z : Placed (Operation S)).
      mutation_root a.schema.mutation z.item.operation_type)
      (one-chosen d e o p read other is again) ∙ u))

pub refusals-have-steps : {S C : Type 0} (s : Scalars S C) → RefusalsHaveSteps s
refusals-have-steps s a cmp why h = of-refused s a cmp why h

pub executed-at-no-step : {S C : Type 0} (s : Scalars S C) → ExecutedAreAtNoStep s
executed-at-no-step s a step x r = not-refused-at s a x.document x.operation x.executable step r

pub one-step-refuses : {S C : Type 0} (s : Scalars S C) → OneStepRefuses s
one-step-refuses s a one other x y = one-step s a one other x y
