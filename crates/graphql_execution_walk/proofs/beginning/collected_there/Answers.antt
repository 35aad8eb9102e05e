use Rattle.std.proofs.Common.{sym, ◌∙◌, subst}
use Rattle.std.specs.Prelude.{IfSome}
use Rattle.graphql_collected.specs.Requests.{fragments_in}
use Rattle.graphql_execution_walk.specs.Prepared.{ArePrepared, asked_in}
use Rattle.graphql_execution_walk.specs.Sets.{AreGroups, selected_in, sets_in}
use Rattle.graphql_execution_walk.proofs.beginning.collected_there.Goals as goal

pub returns : goal.returns
returns g c =
    let rq = c.args.executor.now.request.now in
    let object = c.args.object.now in
    let found = selected_in g.S.ScalarValue.answer rq (sets_in rq c.args.spot.now.selected) object in
    record {
      named = c.new.ensures;
      groups = subst (AreGroups (fragments_in rq) found) (sym c.in_ok-new.ensures) c.in_ok-groups.ensures;
      prepared = subst (λ gs. IfSome c.in_ok-prepared.prepared (ArePrepared (asked_in rq) object gs)) (c.as_slice.ensures ∙ sym c.in_ok-new.ensures) c.in_ok-prepared.ensures;
    }
