use Rattle.std.proofs.Common.{◌≡◌, map, take}
use Rattle.std.specs.List.{flat_map}
use Rattle.graphql_names.specs.Names.{Bytes, is_one_of}
use Rattle.graphql_occurrences.specs.Occurrences.{variable_part}
use Rattle.graphql_rules_document.specs.Lent.{operation_of, use_of}
use Rattle.graphql_names.specs.NameSets.{has_name}
use Rattle.graphql_rules_document.specs.NoUndefinedVariables.{undefined_use}
use Rattle.graphql_rule_errors.specs.Places.{Reports}
use Rattle.graphql_rules_document.proofs.no_undefined_variables.report_uses.Given as goal

abbrev pub invariant-uses : goal.invariant-uses
invariant-uses g l =
    ((q : Bytes) → has_name l.defined q ≡ is_one_of (map (λ v. v.name.item) (map variable_part l.operation.defined.now)) q)
    → Reports (flat_map (undefined_use (operation_of l.operation)) (map use_of (take l.used-index l.uses))) l.initial.errors l.errors
