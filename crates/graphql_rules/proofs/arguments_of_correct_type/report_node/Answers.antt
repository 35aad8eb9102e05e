use Rattle.graphql_schema.proofs.MeantScalars.{scalars_of}
use Rattle.graphql_occurrences.specs.Lent.{around_of}
use Rattle.graphql_rules.proofs.NodeLemmas.{no_literals}
use Rattle.graphql_rules.proofs.TellLemmas.{reports_no_literal}
use Rattle.graphql_rules.proofs.arguments_of_correct_type.report_node.Goals as goal

pub returns-in_default : goal.returns-in_default
returns-in_default g c =
    let scalars = scalars_of g.S.ParseScalarValue g.S.ScalarValue g.S.PartialEq g.S.Check.Check in
    let context = c.args.context.now in
    reports_no_literal scalars context.schema.now.types _ context (no_literals (around_of context.around) c.args.node.now c.in_default.not-Field c.in_default.not-Directive)
