use Rattle.std.proofs.Common.{sym, subst}
use Rattle.graphql_rules_document.specs.Components.{Told}
use Rattle.graphql_rules_document.specs.Walks.{IsOpen}
use Rattle.graphql_rules_document.proofs.ComponentLemmas.{spread_leads}
use Rattle.graphql_rules_document.proofs.MarkLemmas.{on_ok}
use Rattle.graphql_rules_document.proofs.component_walk.ComponentWalk.follow_spread.Goals as goal

pub returns-then-is_at : goal.returns-then-is_at
returns-then-is_at c there spread w =
    let fragments = c.args.index.now.fragments.now in
    let leads = spread_leads fragments c.args.fragment.now c.args.spread.now c.in-Some.from c.in-Some-last_named.to there spread (sym c.in-Some.ensures) (sym c.in-Some-last_named.ensures) in
    let last = c.is_in_last_part.ensures c.if-not-is_in_last_part.false in
    record {
      path = c.merge.ensures fragments c.in-Some.from c.in-Some-last_named.to last.position w.path last.behind last.there (c.is_at.ensures c.if-is_at.true) leads;
      told = w.told;
    }

pub returns-in_ok-extend-in-None : goal.returns-in_ok-extend-in-None
returns-in_ok-extend-in-None c =
    on_ok c.note.result _ _
    (λ h there spread w.
    let fragments = c.args.index.now.fragments.now in
    let leads = spread_leads fragments c.args.fragment.now c.args.spread.now c.in-Some.from c.in-Some-last_named.to there spread (sym c.in-Some.ensures) (sym c.in-Some-last_named.ensures) in
    let last = c.is_in_last_part.ensures c.if-not-is_in_last_part.false in
    record {
      path = subst (IsOpen fragments) (sym h.0) (c.in_ok-extend-in-None.ensures fragments c.in-Some.from last.position w.path last.behind last.there leads);
      told = subst (Told fragments) (sym h.1) w.told;
    }) c.note.ensures
