use Rattle.graphql_schema.proofs.MeantScalars.{scalars_of}
use Rattle.graphql_occurrences.specs.Events.{events}
use Rattle.graphql_rules.specs.DefaultValuesOfCorrectType.{default_values_of_correct_type_faults}
use Rattle.graphql_validation.proofs.WalkLemmas.{reports_visited}
use Rattle.graphql_validation.specs.FirstStage.{DefaultsTold, parts}
use Rattle.graphql_visitors.specs.Rules.{locally}
use Rattle.graphql_visitors.specs.Runs.{joined}
use Rattle.graphql_visitors.specs.Subjects.{subject_of}
use Rattle.graphql_law_rows.specs.OnlyTold.{IsOnlyTold}
use Rattle.graphql_law_rows.proofs.visitors.report_defaults.Goals as goal

pub returns : goal.returns
returns g c =
    let subject = subject_of c.args.context.now in
    let scalars = scalars_of g.S.ParseScalarValue g.S.ScalarValue g.S.PartialEq g.S.Check.Check in
    reports_visited (locally (default_values_of_correct_type_faults scalars)) (IsOnlyTold (DefaultsTold scalars subject))
    (events subject.schema subject.document)
    c.factory-rule.result c.visit.new.visitor c.args.context.now c.visit.new.context
    c.visit.ensures.visited c.visit.ensures.around
    (λ ts runs.
    let is = c.relational_rules_tell_of_occurrences.ensures subject c.factory-rule.result c.visit.new.visitor ts runs in
    record {
      is = is;
      alone = λ other may. c.told_of_defaults_is_determined.ensures subject (parts subject) other (joined ts) may is;
    })
