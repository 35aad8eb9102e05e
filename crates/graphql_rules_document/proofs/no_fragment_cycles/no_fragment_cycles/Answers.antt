use Rattle.std.proofs.Common.{◌<◌, get_or, length, map, ap, refl, subst, ◌∙◌}
use Rattle.std.proofs.lemmas.Option.{slice_get_read}
use Rattle.graphql_rules_document.specs.Lent.{fragment_of}
use Rattle.graphql_rules_document.specs.NoFragmentCycles.{cycles_in}
use Rattle.graphql_rule_errors.specs.Places.{Reports}
use Rattle.graphql_rules_document.proofs.LoopLemmas.{reports_turn}
use Rattle.graphql_rules_document.proofs.no_fragment_cycles.no_fragment_cycles.Goals as goal

pub fragments-preserved : goal.fragments-preserved
fragments-preserved c =
    let fragments = c.args.index.now.fragments.now in
    let fs = map fragment_of fragments in
    let place = c.fragments.place in
    let item = c.fragment-item.result in
    let same = c.fragments-fragment-items.ensures in
    let within : place < length fragments = subst (λ xs. place < length xs) same c.fragments-test.true in
    let is = c.fragment-item.is ∙ ap (λ xs. get_or xs place item) same in
    reports_turn fragment_of (cycles_in fs) fragments place item within c.args.errors.now c.fragments.errors c.report_cycles.new.errors c.fragments.invariant
    (subst (λ f. Reports (cycles_in fs (fragment_of f)) c.fragments.errors c.report_cycles.new.errors) is (c.in_ok-report_cycles.ensures c.in_ok-components.ensures (slice_get_read fragments (length fragments) place item refl within is)))
