use Rattle.graphql_schema.proofs.MeantScalars.{scalars_of}
use Rattle.std.proofs.Common.{take}
use Rattle.std.specs.List.{flat_map}
use Rattle.graphql_occurrences.specs.Lent.{arguments_lent}
use Rattle.graphql_visitors.specs.Reports.{ReportsBy}
use Rattle.graphql_rules.specs.ArgumentsOfCorrectType.{literal_of}
use Rattle.graphql_rules.specs.Literals.{Misfits}
use Rattle.graphql_rules.proofs.arguments_of_correct_type.report_arguments.Given as goal

abbrev pub invariant-arguments : goal.invariant-arguments
invariant-arguments g l =
    let scalars = scalars_of g.S.ParseScalarValue g.S.ScalarValue g.S.PartialEq g.S.Check.Check in
    ReportsBy (Misfits scalars l.initial.context.schema.now.types (flat_map (literal_of (arguments_lent l.declared)) (take l.argument-index l.given))) l.initial.context l.context
