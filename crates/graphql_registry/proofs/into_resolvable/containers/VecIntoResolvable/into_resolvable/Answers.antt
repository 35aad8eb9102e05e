use Rattle.std.proofs.Common.{◌+◌, rules, length, subst, sym, arith}
use Rattle.std.proofs.lemmas.Iterator.Adapters.{YieldsList-from_vec}
use Rattle.std.proofs.lemmas.Iterator.Consumers.{YieldsList-turn, YieldsList-end}
use Rattle.std.proofs.lemmas.List.{length_push}
use Rattle.graphql_registry.proofs.AnswersLemmas.{HaveAnswered, have_answered_more, list_answers, list_stops}
use Rattle.graphql_registry.proofs.into_resolvable.containers.VecIntoResolvable.into_resolvable.Goals as goal

pub returns-in-Err : goal.returns-in-Err
returns-in-Err g c =
    let t = YieldsList-turn (YieldsList-from_vec {s = c.into_iter-item-iterator.result} c.args.self.items c.into_iter-item-iterator.ensures.into_iter_gives.0 (search rules)) c.items.yielded c.items.item-iterator c.items.yielded_by c.next.result c.next.new.self c.in-Some.item c.in-Some.is c.next.ensures.steps in
    list_stops g.T.IntoResolvable.answer c.args.self.items (length c.items.yielded) c.items.answers c.in-Some.item c.in-Err.fault t.0 t.1 c.items.invariant.2 c.in-Err.ensures

pub items-preserved : goal.items-preserved
items-preserved g c =
    let answer = g.T.IntoResolvable.answer in
    let t = YieldsList-turn (YieldsList-from_vec {s = c.into_iter-item-iterator.result} c.args.self.items c.into_iter-item-iterator.ensures.into_iter_gives.0 (search rules)) c.items.yielded c.items.item-iterator c.items.yielded_by c.next.result c.next.new.self c.in-Some.item c.in-Some.is c.next.ensures.steps in
    let more = have_answered_more answer c.args.self.items (length c.items.yielded) c.items.answers c.in-Some.item c.in-Ok.answer t.0 t.1 c.items.invariant.2 c.in-Ok.ensures in
    let one_more : HaveAnswered answer c.args.self.items (length c.items.yielded + 1) c.push.new.self =
    subst (HaveAnswered answer c.args.self.items (length c.items.yielded + 1)) (sym c.in_ok-push-in-Ok.ensures.ok) more in
    (tt, tt, subst (λ n. HaveAnswered answer c.args.self.items n c.push.new.self) (sym (length_push c.items.yielded c.in-Some.item)) one_more)

pub returns : goal.returns
returns g c =
    let t = YieldsList-end (YieldsList-from_vec {s = c.into_iter-item-iterator.result} c.args.self.items c.into_iter-item-iterator.ensures.into_iter_gives.0 (search rules)) c.items.yielded c.items.item-iterator c.items.yielded_by c.next.result c.next.new.self c.in-None.is c.next.ensures.steps in
    list_answers g.T.IntoResolvable.answer c.args.self.items (length c.items.yielded) c.items.answers (omega arith) c.items.invariant.2
