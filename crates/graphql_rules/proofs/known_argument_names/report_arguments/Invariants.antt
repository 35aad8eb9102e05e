use Rattle.std.proofs.Common.{take}
use Rattle.std.specs.List.{flat_map}
use Rattle.graphql_occurrences.specs.Lent.{arguments_lent}
use Rattle.graphql_visitors.specs.Reports.{Reports}
use Rattle.graphql_rules.specs.KnownArgumentNames.{undeclared}
use Rattle.graphql_rules.proofs.known_argument_names.report_arguments.Given as goal

abbrev pub invariant-arguments : goal.invariant-arguments
invariant-arguments g l = Reports (flat_map (undeclared (arguments_lent l.declared)) (take l.argument-index l.arguments)) l.initial.context l.context
