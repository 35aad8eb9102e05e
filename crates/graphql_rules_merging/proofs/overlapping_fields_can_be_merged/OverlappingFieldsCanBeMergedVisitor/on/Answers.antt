use Rattle.std.proofs.Common.{true, refl}
use Rattle.graphql_rules_merging.proofs.Visits.{asked_before, asked_first}
use Rattle.graphql_rules_merging.proofs.overlapping_fields_can_be_merged.OverlappingFieldsCanBeMergedVisitor.on.Goals as goal

pub returns-then-self : goal.returns-then-self
returns-then-self g c = asked_before g.S.PartialEq.eq c.args.context.now c.args.self.now.is_asked c.args.self.now.comparisons c.if-self.true

pub returns : goal.returns
returns g c = asked_first g.S.PartialEq.eq c.args.context.now c.report_counted.new.context c.args.self.now.is_asked true c.args.self.now.comparisons
    c.report_counted.new.comparisons c.if-self.false refl c.report_counted.ensures
