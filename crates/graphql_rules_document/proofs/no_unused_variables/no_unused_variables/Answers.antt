use Rattle.std.proofs.Common.{map, subst}
use Rattle.graphql_rules_document.specs.Lent.{fragment_of, operation_of}
use Rattle.graphql_rules_document.specs.NoUnusedVariables.{unused_in}
use Rattle.graphql_rule_errors.specs.Places.{Reports}
use Rattle.graphql_rules_document.proofs.LoopLemmas.{reports_turn}
use Rattle.graphql_rules_document.proofs.no_unused_variables.no_unused_variables.Goals as goal

pub operations-preserved : goal.operations-preserved
operations-preserved g c =
    let fs = map fragment_of c.args.index.now.fragments.now in
    let mid = c.operations.errors in
    let new = c.report_operation.new.errors in
    reports_turn operation_of (unused_in fs) c.args.operations.now c.operations.operation-index c.operation-item.result c.operations-test.true c.args.errors.now mid new c.operations.invariant
    (subst (λ o. Reports (unused_in fs (operation_of o)) mid new) c.operation-item.is c.in_ok-report_operation.ensures)
