use Rattle.graphql_rules_merging.proofs.Visits.{told_alone}
use Rattle.graphql_rules_merging.proofs.overlapping_fields_can_be_merged.report_overlapping_fields.Goals as goal

pub returns : goal.returns
returns g c = told_alone g.S.PartialEq.eq c.args.context.now c.report_counted.new.context 0 c.report_counted.new.comparisons c.report_counted.ensures
