use Rattle.std.proofs.Common.{◌<◌, ◌∷◌, [], not, get_or, length, ap, subst, ◌∙◌}
use Rattle.graphql_names.specs.Names.{is_one_of}
use Rattle.graphql_rules_document.specs.Lent.{fragment_of}
use Rattle.graphql_rules_document.proofs.UsesLemmas.{mark_is}
use Rattle.graphql_rules_document.specs.NoUnusedFragments.{unused_fragment}
use Rattle.graphql_rule_errors.specs.Places.{error_if}
use Rattle.graphql_rule_errors.proofs.ReportLemmas.{reports_as}
use Rattle.graphql_rules_document.proofs.LoopLemmas.{reports_turn}
use Rattle.graphql_rules_document.proofs.no_unused_fragments.report_all.Goals as goal

pub fragments-preserved : goal.fragments-preserved
fragments-preserved c names are =
    let fragments = c.args.index.now.fragments.now in
    let place = c.fragments.place in
    let item = c.fragment-item.result in
    let same = c.fragments-fragment-items.ensures in
    let within : place < length fragments = subst (λ xs. place < length xs) same c.fragments-test.true in
    let is = c.fragment-item.is ∙ ap (λ xs. get_or xs place item) same in
    let mark = c.is_reached.ensures ∙ mark_is (λ f. is_one_of names f.name) fragments place item within c.args.reached.now.marks are in
    reports_turn fragment_of (unused_fragment names) fragments place item within c.args.errors.now c.fragments.errors c.report_unused.new.errors (c.fragments.invariant names are)
    (reports_as _ _ c.fragments.errors c.report_unused.new.errors (λ i. error_if (not (mark i)) ((is i).place ∷ [])) c.in_ok-report_unused.ensures)
