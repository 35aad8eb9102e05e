-- Rules over all operations and fragments of a document, as visitors, each of which is asked once.
use Rattle.std.specs.Prelude.{◌≡◌, Bool, true, false, List, []}
use Rattle.graphql_schema.specs.declared.meta.MetaType.{MetaType}
use Rattle.graphql_rule_errors.specs.Places.{Places}
use Rattle.graphql_rules_document.specs.declared.once.Once.{Once}
use Rattle.graphql_rules_document.specs.Scopes.{FragmentScope, OperationScope, scopes_in}
use Rattle.graphql_visitors.specs.Runs.{VisitorStep}
use Rattle.graphql_visitors.specs.Subjects.{Subject}

-- the places of the errors, by the types of a schema, and by what the operations and the fragments
-- of a document hold
abbrev pub ScopeRule : Type 0 → Type 0 → Type 0
ScopeRule S C = List (MetaType S C) → List (OperationScope S) → List FragmentScope → Places

module _ {S C : Type 0} (says : ScopeRule S C) where
  -- what a rule says of a document
  abbrev pub said_of : Subject S C → Places
  said_of subject =
      let scopes = scopes_in subject.schema subject.document in
      says subject.schema.types scopes.operations scopes.fragments

  -- what its visitor tells at an event, by whether it has asked the rule before
  abbrev pub told_by : Subject S C → Bool → Places
  told_by subject false = said_of subject
  told_by subject true = []

  -- the rule is asked at the first event, which is that the document is entered, and not again
  abbrev pub once : {R : Type 0} → VisitorStep (Once R) S C
  once subject v e w told = (w ≡ record v { is_asked = true }) × (told ≡ told_by subject v.is_asked)
