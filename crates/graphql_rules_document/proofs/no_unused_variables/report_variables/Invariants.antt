use Rattle.std.proofs.Common.{◌≡◌, List, map, take}
use Rattle.std.specs.List.{flat_map}
use Rattle.graphql_names.specs.Names.{Bytes, is_one_of}
use Rattle.graphql_occurrences.specs.Occurrences.{variable_part}
use Rattle.graphql_names.specs.NameSets.{has_name}
use Rattle.graphql_rules_document.specs.NoUnusedVariables.{unused_variable}
use Rattle.graphql_rule_errors.specs.Places.{Reports}
use Rattle.graphql_rules_document.proofs.no_unused_variables.report_variables.Given as goal

abbrev pub invariant-defined : goal.invariant-defined
invariant-defined g l =
    (names : List Bytes) → ((q : Bytes) → has_name l.used q ≡ is_one_of names q)
    → Reports (flat_map (unused_variable names) (map variable_part (take l.variable-index l.defined))) l.initial.errors l.errors
