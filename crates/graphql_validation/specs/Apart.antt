-- The rule against introspection, which keeps its errors apart from those of other rules (GraphQL
-- October 2021, 4.2 Schema Introspection).
use Rattle.std.specs.Prelude.{◌≡◌, ◌++◌, Bool, [], if◌then◌else◌}
use Rattle.graphql_occurrences.specs.Nodes.{Seen}
use Rattle.graphql_rule_errors.specs.Places.{Places, places}
use Rattle.graphql_rules.specs.DisableIntrospection.{disable_introspection_faults}
use Rattle.graphql_visitors.specs.Rules.{told_at}
use Rattle.graphql_visitors.specs.Runs.{VisitorStep}
use Rattle.graphql_visitors.specs.Subjects.{Subject}
use Rattle.graphql_validation.specs.FirstStage.{introspection_places}
use Rattle.graphql_validation.specs.declared.introspection.Introspection.{Introspection}

module _ {S C : Type 0} where
  -- what it tells at an event, where it is asked
  abbrev pub told_if_asked : Bool → Subject S C → Seen S C → Places
  told_if_asked is_asked subject e =
      if is_asked then told_at disable_introspection_faults subject e else []

  -- at an event it reports nothing, and keeps what it tells
  abbrev pub keeps_apart : VisitorStep Introspection S C
  keeps_apart subject v e w told = (told ≡ [])
      × (w.is_asked ≡ v.is_asked)
      × (places w.errors ≡ places v.errors ++ told_if_asked v.is_asked subject e)

  -- what it tells of a document
  abbrev pub asked_places : Bool → Subject S C → Places
  asked_places is_asked subject = if is_asked then introspection_places subject else []
