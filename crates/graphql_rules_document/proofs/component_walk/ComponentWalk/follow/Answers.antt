use Rattle.std.proofs.Common.{sym}
use Rattle.graphql_rules_document.proofs.ComponentLemmas.{contains_got, contains_read}
use Rattle.graphql_rules_document.proofs.MarkLemmas.{on_ok}
use Rattle.graphql_rules_document.proofs.component_walk.ComponentWalk.follow.Goals as goal

pub returns : goal.returns
returns c =
    let fragment = c.in-Some.fragment.now in
    let looked = c.in-Some.ensures.lookup in
    on_ok c.follow_spread.result _ _
    (λ h w.
    h (contains_read c.fragments.result.now c.args.index.now.fragments.now c.args.following.place fragment c.fragments.ensures looked.3.0 looked.1)
    (contains_got fragment.spreads c.args.following.next c.in-Some-get.spread.now (sym c.in-Some-get.ensures.value)) (record { path = w.path; told = w.told })) c.follow_spread.ensures
