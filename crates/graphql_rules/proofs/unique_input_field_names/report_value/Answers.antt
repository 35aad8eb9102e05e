use Rattle.std.proofs.Common.{map, subst, ap, ◌∙◌}
use Rattle.graphql_occurrences.specs.Lent.{around_of}
use Rattle.graphql_values.specs.InputValues.{Pair}
use Rattle.graphql_values.specs.declared.input_value.InputValue.{InputValue}
use Rattle.graphql_visitors.specs.Reports.{Reports}
use Rattle.graphql_visitors.specs.Subjects.{subject_of}
use Rattle.graphql_rule_errors.specs.Repeats.{mention, repeats}
use Rattle.graphql_rules.proofs.ObjectLemmas.{object_told}
use Rattle.graphql_rules.proofs.unique_input_field_names.report_value.Goals as goal

pub returns-in-Object : goal.returns-in-Object
returns-in-Object g c =
    let context = c.args.context.now in
    let v = c.args.value.now in
    subst (λ told. Reports told context c.report_repeats.new.context)
    (ap (λ ps. repeats (map (λ (p : Pair (InputValue g.row.S.Denot)). mention p.0) ps)) c.as_slice.ensures
    ∙ object_told (around_of context.around) (subject_of context) v.item v.span.start c.in-Object.fields c.in-Object.is) c.report_repeats.ensures
