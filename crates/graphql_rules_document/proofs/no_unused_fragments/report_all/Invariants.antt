use Rattle.std.proofs.Common.{◌≡◌, List, map, take}
use Rattle.std.specs.List.{flat_map}
use Rattle.graphql_names.specs.Names.{Bytes, is_one_of}
use Rattle.graphql_rules_document.specs.Lent.{fragment_of}
use Rattle.graphql_rules_document.specs.NoUnusedFragments.{unused_fragment}
use Rattle.graphql_rule_errors.specs.Places.{Reports}
use Rattle.graphql_rules_document.proofs.no_unused_fragments.report_all.Given as goal

abbrev pub invariant-fragments : goal.invariant-fragments
invariant-fragments l =
    (names : List Bytes) → l.reached.marks ≡ map (λ f. is_one_of names f.name) (map fragment_of l.index.fragments.now)
    → Reports (flat_map (unused_fragment names) (map fragment_of (take l.place l.index.fragments.now))) l.initial.errors l.errors
