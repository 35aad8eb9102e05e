use Rattle.std.proofs.Common.{true, refl}
use Rattle.graphql_rules_document.proofs.OnceLemmas.{asked_before, asked_first}
use Rattle.graphql_rules_document.proofs.once.OnceVisitor.on.Goals as goal

pub returns-then-self : goal.returns-then-self
returns-then-self g c =
    asked_before g.R.DocumentRule.says c.args.event.now c.args.self.now c.args.context.now c.if-self.true

pub returns : goal.returns
returns g c =
    let before = c.args.self.now in
    asked_first g.R.DocumentRule.says c.args.event.now before (record before { is_asked = true }) c.args.context.now
    c.report_rule.new.context c.if-self.false refl c.report_rule.ensures
