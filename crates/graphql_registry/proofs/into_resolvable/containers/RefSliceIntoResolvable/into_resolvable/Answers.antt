use Rattle.std.proofs.Common.{subst, sym, ◌+◌}
use Rattle.graphql_registry.proofs.AnswersLemmas.{HaveAnswered, have_answered_more, list_answers, list_stops}
use Rattle.graphql_registry.proofs.into_resolvable.containers.RefSliceIntoResolvable.into_resolvable.Goals as goal

pub returns-in-Err : goal.returns-in-Err
returns-in-Err g c =
    list_stops g.T.IntoResolvable.answer c.args.self.now c.items.item-index c.items.answers c.item-item.result c.in-Err.fault c.items-test.true c.item-item.is c.items.invariant c.in-Err.ensures

pub items-preserved : goal.items-preserved
items-preserved g c =
    let answer = g.T.IntoResolvable.answer in
    let more = have_answered_more answer c.args.self.now c.items.item-index c.items.answers c.item-item.result c.in-Ok.answer c.items-test.true c.item-item.is c.items.invariant c.in-Ok.ensures in
    subst (HaveAnswered answer c.args.self.now (c.items.item-index + 1)) (sym c.in_ok-push-in-Ok.ensures.ok) more

pub returns : goal.returns
returns g c =
    list_answers g.T.IntoResolvable.answer c.args.self.now c.items.item-index c.items.answers c.items-test.false c.items.invariant
