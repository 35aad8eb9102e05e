use Rattle.std.proofs.Common.{map, take}
use Rattle.std.specs.List.{flat_map}
use Rattle.graphql_rules_document.specs.Lent.{fragment_of}
use Rattle.graphql_rules_document.specs.NoFragmentCycles.{cycles_in}
use Rattle.graphql_rule_errors.specs.Places.{Reports}
use Rattle.graphql_rules_document.proofs.no_fragment_cycles.no_fragment_cycles.Given as goal

abbrev pub invariant-fragments : goal.invariant-fragments
invariant-fragments l = Reports (flat_map (cycles_in (map fragment_of l.index.fragments.now)) (map fragment_of (take l.place l.index.fragments.now))) l.initial.errors l.errors
