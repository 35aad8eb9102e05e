use Rattle.std.proofs.Common.{map, ap, ◌∙◌}
use Rattle.std.specs.List.{flat_map}
use Rattle.graphql_rules_document.specs.Lent.{fragment_of, spread_of}
use Rattle.graphql_rules_document.specs.Reached.{reached}
use Rattle.graphql_rules_document.specs.NoUnusedFragments.{unused_fragment}
use Rattle.graphql_rule_errors.proofs.ReportLemmas.{reports_as}
use Rattle.graphql_rules_document.proofs.LoopLemmas.{on_ok}
use Rattle.graphql_rules_document.proofs.no_unused_fragments.no_unused_fragments.Goals as goal

pub returns : goal.returns
returns g c =
    let fs = map fragment_of c.args.index.now.fragments.now in
    let spreads = map spread_of c.as_slice.result.now in
    let same = ap (map spread_of) c.as_slice.ensures ∙ c.in_ok-spreads.ensures in
    on_ok c.report_all.result _ _
    (λ h. reports_as _ _ c.args.errors.now c.report_all.new.errors (ap (λ ss. flat_map (unused_fragment (reached fs ss)) fs) same) (h (reached fs spreads) c.in_ok-search.ensures)) c.report_all.ensures
