use Rattle.std.proofs.Common.{map, ap, ◌∙◌}
use Rattle.graphql_names.specs.Names.{is_one_of}
use Rattle.graphql_rules_document.specs.Lent.{fragment_of, operation_of, use_of}
use Rattle.graphql_rules_document.specs.Reached.{uses_from}
use Rattle.graphql_rules_document.proofs.LoopLemmas.{on_ok}
use Rattle.graphql_rules_document.proofs.no_unused_variables.report_operation.Goals as goal

pub returns : goal.returns
returns g c =
    let names = map (λ u. u.name) (uses_from (map fragment_of c.args.index.now.fragments.now) (operation_of c.args.operation.now)) in
    on_ok c.report_variables.result _ _
    (λ h. h names (λ q. c.in_ok-used.ensures q ∙ ap (λ us. is_one_of (map (λ u. u.name) us) q) (ap (map use_of) c.as_slice.ensures ∙ c.in_ok-uses.ensures))) c.report_variables.ensures
