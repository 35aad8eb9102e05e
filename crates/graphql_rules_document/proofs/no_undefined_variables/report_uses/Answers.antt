use Rattle.std.proofs.Common.{ap, ◌∙◌}
use Rattle.std.specs.Prelude.{not}
use Rattle.graphql_rules_document.specs.Lent.{operation_of, use_of}
use Rattle.graphql_rules_document.specs.NoUndefinedVariables.{undefined_use}
use Rattle.graphql_rules_document.proofs.LoopLemmas.{reports_turn}
use Rattle.graphql_rules_document.proofs.ReachedLemmas.{reports_if}
use Rattle.graphql_rules_document.proofs.no_undefined_variables.report_uses.Goals as goal

pub uses-preserved : goal.uses-preserved
uses-preserved g c known =
    reports_turn use_of (undefined_use (operation_of c.args.operation.now)) c.args.uses.now c.uses.used-index _ c.uses-test.true c.args.errors.now c.uses.errors c.report_use.new.errors (c.uses.invariant known)
    (reports_if _ _ _ c.uses.errors c.report_use.new.errors (ap not (c.contains.ensures ∙ known _)) c.in_ok-report_use.ensures)
