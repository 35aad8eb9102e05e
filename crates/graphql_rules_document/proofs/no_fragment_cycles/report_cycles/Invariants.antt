use Rattle.std.proofs.Common.{◌≡◌, Some, map, slice_get, take}
use Rattle.std.specs.List.{flat_map}
use Rattle.graphql_rules_document.specs.Components.{IsComponents}
use Rattle.graphql_rules_document.specs.Lent.{fragment_of, spread_of}
use Rattle.graphql_rules_document.specs.NoFragmentCycles.{cycle_at}
use Rattle.graphql_rule_errors.specs.Places.{Reports}
use Rattle.graphql_rules_document.proofs.no_fragment_cycles.report_cycles.Given as goal

abbrev pub invariant-spreads : goal.invariant-spreads
invariant-spreads l =
    IsComponents l.index.fragments.now l.components
    → slice_get l.index.fragments.now l.place ≡ Some l.fragment
    → Reports (flat_map (cycle_at (map fragment_of l.index.fragments.now) (fragment_of l.fragment)) (map spread_of (take l.spread-index l.fragment.spreads))) l.initial.errors l.errors
