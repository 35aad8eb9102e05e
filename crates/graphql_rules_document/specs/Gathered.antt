-- What is gathered of operations and fragments, event by event.
use Rattle.std.specs.Prelude.{List, [], ◌∷◌, ◌++◌, map, fold}
use Rattle.std.specs.Option.{option_map}
use Rattle.graphql_tree.specs.Documents.{variables_in}
use Rattle.graphql_occurrences.specs.Nodes.{AtFragment, AtOperation, Event, Leave, Seen}
use Rattle.graphql_occurrences.specs.Occurrences.{variable_part}
use Rattle.graphql_occurrences.specs.Parts.{Part, ASpread, Use, VariableUsed}
use Rattle.graphql_occurrences.specs.PartsOf.{parts_of}
use Rattle.graphql_rules_document.specs.Lent.{fragment_of, operation_of, spread_of, use_of}
use Rattle.graphql_rules_document.specs.Scopes.{FragmentScope, OperationScope, Scopes, Spread}
use Rattle.graphql_rules_document.specs.declared.gathering.Gathering.{Gathering}

-- the definitions that are over, and what the one at hand uses and spreads
pub record Gathered (S : Type 0) : Type 0 where
  pub operations : List (OperationScope S)
  pub fragments : List FragmentScope
  pub uses : List Use
  pub spreads : List Spread

module _ {S : Type 0} where
  abbrev pub gathered : Gathering S → Gathered S
  gathered g =
      record {
        operations = map operation_of g.operations;
        fragments = map fragment_of g.fragments;
        uses = map use_of g.uses;
        spreads = map spread_of g.spreads;
      }

  abbrev pub nothing : Gathered S
  nothing = record { operations = []; fragments = []; uses = []; spreads = [] }

  abbrev pub scopes_gathered : Gathered S → Scopes S
  scopes_gathered g = record { operations = g.operations; fragments = g.fragments }

  -- where an operation or a fragment is left, it is over
  abbrev pub closed : Gathered S → Event S → Gathered S
  closed g (Leave (AtOperation o)) = record {
    operations = g.operations
        ++ record {
          name = option_map (λ n. n.item) o.item.name;
          place = o.span.start;
          defined = map variable_part (variables_in o.item.variable_definitions);
          uses = g.uses;
          spreads = g.spreads;
        } ∷ [];
    fragments = g.fragments;
    uses = [];
    spreads = [];
  }
  closed g (Leave (AtFragment f)) = record {
    operations = g.operations;
    fragments = g.fragments ++ record {
      name = f.item.name.item;
      place = f.span.start;
      uses = g.uses;
      spreads = g.spreads;
    } ∷ [];
    uses = [];
    spreads = [];
  }
  closed g _ = g

module _ {S C : Type 0} where
  -- with a part
  abbrev pub noted : Gathered S → Part S C → Gathered S
  noted g (VariableUsed u) = record g { uses = g.uses ++ u ∷ [] }
  noted g (ASpread s) =
      record g { spreads = g.spreads ++ record { name = s.name.item; place = s.place } ∷ [] }
  noted g _ = g

  -- with what an event tells
  abbrev pub with_event : Gathered S → Seen S C → Gathered S
  with_event g s = closed (fold noted g (parts_of s)) s.event
