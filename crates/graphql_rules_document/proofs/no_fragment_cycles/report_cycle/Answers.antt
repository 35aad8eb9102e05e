use Rattle.std.proofs.Common.{[], ◌∷◌, true, false, sym, ◌∙◌}
use Rattle.graphql_rule_errors.proofs.ReportLemmas.{reports_none}
use Rattle.graphql_rules_document.proofs.LoopLemmas.{on_ok}
use Rattle.graphql_rules_document.proofs.ReachedLemmas.{reports_if}
use Rattle.graphql_rules_document.proofs.no_fragment_cycles.report_cycle.Goals as goal

pub returns-then-not-is_cycle : goal.returns-then-not-is_cycle
returns-then-not-is_cycle c are there =
    reports_if false _ (c.args.spread.now.place ∷ []) c.args.errors.now c.args.errors.now (sym c.if-not-is_cycle.true ∙ c.in_ok-is_cycle.ensures are c.args.fragment.now there) (reports_none c.args.errors.now)

pub returns : goal.returns
returns c =
    on_ok c.report.result _ _
    (λ h are there. reports_if true _ (c.args.spread.now.place ∷ []) c.args.errors.now c.report.new.errors (sym c.if-not-is_cycle.false ∙ c.in_ok-is_cycle.ensures are c.args.fragment.now there) h)
    c.report.ensures.places
