use Rattle.std.proofs.Common.{◌≡◌, ◌<◌, ◌∙◌, ap, subst, arith, length, below_more, get_or}
use Rattle.std.proofs.lemmas.List.{get_or_read}
use Rattle.graphql_rules_merging.specs.Alone.{SetStandsAlone}
use Rattle.graphql_rules_merging.proofs.alone.all_stand_alone.Goals as goal

pub loop-set-preserved : goal.loop-set-preserved
loop-set-preserved g c =
    let xs = c.as_slice-set-items.result.now in
    let k = c.loop-set.set-index in
    let alone = c.stands_alone.ensures c.if-not-stands_alone.false in
    below_more _ _ c.loop-set.invariant
    (λ d.
    subst SetStandsAlone (get_or_read xs k c.set-item.result c.loop-set-test.true c.set-item.is d ∙ ap (λ sets. get_or sets k d) c.as_slice-set-items.ensures)
    alone)

pub returns : goal.returns
returns g c = λ _ k d within. c.loop-set.invariant k (omega (arith, within, ap length c.as_slice-set-items.ensures)) d
