use Rattle.graphql_schema.proofs.MeantScalars.{scalars_of}
use Rattle.std.proofs.Common.{◌∙◌, ap, subst, sym}
use Rattle.std.specs.Option.{is_some, option_map}
use Rattle.graphql_occurrences.specs.Lent.{field_of_known}
use Rattle.graphql_occurrences.specs.Nodes.{field_head, placed_as}
use Rattle.graphql_visitors.specs.Reports.{ReportsBy}
use Rattle.graphql_rules.specs.ArgumentsOfCorrectType.{literals_among}
use Rattle.graphql_rules.specs.Literals.{Misfits}
use Rattle.graphql_rules.proofs.NodeLemmas.{literals_of_field}
use Rattle.graphql_rules.proofs.arguments_of_correct_type.report_field.Goals as goal

pub returns-then-is_some : goal.returns-then-is_some
returns-then-is_some g c =
    let scalars = scalars_of g.S.ParseScalarValue g.S.ScalarValue g.S.PartialEq g.S.Check.Check in
    let context = c.args.context.now in
    let f = c.args.field.now in
    let known = option_map field_of_known c.args.known in
    subst (λ asked. ReportsBy (Misfits scalars context.schema.now.types asked) context c.report_given.new.context)
    ((λ i. literals_among (c.arguments_of_field.ensures i) (c.arguments_in-given.ensures i))
    ∙ sym (literals_of_field context.around.parent known (placed_as f (field_head f.item)) (ap is_some (sym c.parent_type.ensures) ∙ sym c.is_some.ensures ∙ c.if-is_some.true))) c.report_given.ensures
