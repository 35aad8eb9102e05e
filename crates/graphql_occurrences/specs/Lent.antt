-- What the nodes and the types that a walk lends stand for.
use Rattle.std.specs.Prelude.{List, []}
use Rattle.std.specs.Option.{option_copied, option_map}
pub use Rattle.graphql_occurrences.specs.DeclaredLent.{literal_of, field_of_known, arguments_lent}
use Rattle.graphql_occurrences.specs.Nodes.{OfField, OfDirective, AtVariableDefinition, AtDirective}
use Rattle.graphql_occurrences.specs.Nodes.{AtArgument, AtSelectionSet, AtField, AtFragmentSpread}
use Rattle.graphql_occurrences.specs.Nodes.{AtInlineFragment, AtValue, AtObjectField, AtDocument}
use Rattle.graphql_occurrences.specs.Nodes.{AtOperation, AtFragment, Inner, Enter, Leave, placed_as}
use Rattle.graphql_occurrences.specs.Nodes.{operation_head, fragment_head, spread_head, field_head}
use Rattle.graphql_occurrences.specs.Nodes.{inline_head, value_head}
use Rattle.graphql_occurrences.specs.Nodes as spec
use Rattle.graphql_occurrences.specs.Parts as part
use Rattle.graphql_occurrences.specs.declared.around.Around.{Around}
use Rattle.graphql_occurrences.specs.declared.place.InputPlace.{InputPlace}
use Rattle.graphql_occurrences.specs.declared.event.Event.{Event}
use Rattle.graphql_occurrences.specs.declared.event.Event.TheVariants as event
use Rattle.graphql_occurrences.specs.declared.event.Node.{Node}
use Rattle.graphql_occurrences.specs.declared.event.Node.TheVariants as node
use Rattle.graphql_occurrences.specs.declared.event.Owner.{Owner}
use Rattle.graphql_occurrences.specs.declared.event.Owner.TheVariants as owner
use Rattle.graphql_occurrences.specs.declared.event.Seen.{Seen}

abbrev pub lent_input : InputPlace → part.InputPlace
lent_input i = record {
  asked = literal_of i.asked;
  has_default = i.has_default;
  is_only_field = i.is_only_field;
}

abbrev pub owner_of : Owner → spec.Owner
owner_of (owner.Field name) = OfField name.now
owner_of (owner.Directive name) = OfDirective name.now

module _ {S : Type 0} where
  abbrev pub node_of : Node S → spec.Node S
  node_of (node.Document d) = AtDocument d.now
  node_of (node.Operation o) = AtOperation (placed_as o.now (operation_head o.now.item))
  node_of (node.Fragment f) = AtFragment (placed_as f.now (fragment_head f.now.item))
  node_of (node.VariableDefinition v) = Inner (AtVariableDefinition v.now)
  node_of (node.Directive place declared d) =
      Inner (AtDirective place (option_copied declared) d.now)
  node_of (node.Argument owner declared a) =
      Inner (AtArgument (owner_of owner) (option_map arguments_lent declared) a.now)
  node_of (node.SelectionSet s) = Inner AtSelectionSet
  node_of (node.Field known f) =
      Inner (AtField (option_map field_of_known known) (placed_as f.now (field_head f.now.item)))
  node_of (node.FragmentSpread s) =
      Inner (AtFragmentSpread (placed_as s.now (spread_head s.now.item)))
  node_of (node.InlineFragment i) =
      Inner (AtInlineFragment (placed_as i.now (inline_head i.now.item)))
  node_of (node.Value v) = Inner (AtValue (placed_as v.now (value_head v.now.item)))
  node_of (node.ObjectField p) = Inner (AtObjectField p.now)

  abbrev pub event_of : Event S → spec.Event S
  event_of (event.Enter n) = Enter (node_of n)
  event_of (event.Leave n) = Leave (node_of n)

module _ {S C : Type 0} where
  -- what stands around, that what is lent stands for
  abbrev pub around_of : Around S C → spec.Around S C
  around_of a = record {
    current = option_map literal_of a.current;
    parent = option_copied a.parent;
    input = option_map lent_input a.input;
  }

  abbrev pub seen_of : Seen S C → spec.Seen S C
  seen_of s = record { around = around_of s.around; event = event_of s.event }
