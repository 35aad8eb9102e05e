-- What is validated.
use Rattle.std.specs.Prelude.{List}
use Rattle.graphql_occurrences.specs.Lookups.{Declarations, declarations_of}
use Rattle.graphql_tree.specs.declared.document.Definition.{Definition}
use Rattle.graphql_occurrences.specs.Events.{seen_event}
use Rattle.graphql_occurrences.specs.Lent.{around_of, event_of}
use Rattle.graphql_occurrences.specs.Nodes.{Seen}
use Rattle.graphql_occurrences.specs.declared.event.Event.{Event}
use Rattle.graphql_visitors.specs.declared.context.ValidatorContext.{ValidatorContext}

-- a document, and what the schema declares by which it is validated
pub record Subject (S C : Type 0) : Type 0 where
  pub schema : Declarations S C
  pub document : List (Definition S)

module _ {S C : Type 0} where
  -- what a context is asked about: its schema's declarations and its document
  abbrev pub subject_of : ValidatorContext S C → Subject S C
  subject_of c =
      record { schema = declarations_of c.schema.now; document = c.fragments.document.now }

  -- an event, where the context stands
  abbrev pub seen_in : ValidatorContext S C → Event S → Seen S C
  seen_in c e = seen_event (around_of c.around) (event_of e)
