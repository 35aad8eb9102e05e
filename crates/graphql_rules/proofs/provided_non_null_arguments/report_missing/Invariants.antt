use Rattle.std.proofs.Common.{take}
use Rattle.std.specs.List.{flat_map}
use Rattle.graphql_visitors.specs.Reports.{Reports}
use Rattle.graphql_names.specs.NameSets.{has_name}
use Rattle.graphql_rules.specs.ProvidedNonNullArguments.{missing}
use Rattle.graphql_rules.proofs.provided_non_null_arguments.report_missing.Given as goal

abbrev pub invariant-declared : goal.invariant-declared
invariant-declared g l = Reports (flat_map (missing l.place (has_name l.given)) (take l.argument-index l.declared)) l.initial.context l.context
