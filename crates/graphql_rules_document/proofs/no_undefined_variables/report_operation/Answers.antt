use Rattle.std.proofs.Common.{map, ap, ◌∙◌}
use Rattle.std.specs.List.{flat_map}
use Rattle.graphql_rules_document.specs.Lent.{operation_of, use_of}
use Rattle.graphql_rules_document.specs.NoUndefinedVariables.{undefined_use}
use Rattle.graphql_rule_errors.proofs.ReportLemmas.{reports_as}
use Rattle.graphql_rules_document.proofs.LoopLemmas.{on_ok}
use Rattle.graphql_rules_document.proofs.no_undefined_variables.report_operation.Goals as goal

pub returns : goal.returns
returns g c =
    let o = operation_of c.args.operation.now in
    on_ok c.report_uses.result _ _
    (λ h. reports_as _ _ c.args.errors.now c.report_uses.new.errors (ap (flat_map (undefined_use o)) (ap (map use_of) c.as_slice.ensures ∙ c.in_ok-uses.ensures)) (h c.in_ok-defined.ensures)) c.report_uses.ensures
