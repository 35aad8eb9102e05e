use Rattle.std.proofs.Common.{◌≡◌, sym, ◌∙◌, ap, slice_get, Some}
use Rattle.std.proofs.lemmas.Option.{slice_get-get_or}
use Rattle.graphql_execution_walk.specs.Prepared.{IsPrepared, asked_in}
use Rattle.graphql_execution_walk.proofs.PreparedLemmas.{length-more, more-known}
use Rattle.graphql_execution_walk.proofs.prepared.prepared_fields.Goals as goal

pub groups-preserved : goal.groups-preserved
groups-preserved g c =
    let rq = c.args.request.now in
    let object = c.args.object.now in
    let gs = c.args.groups.now in
    let i = c.groups.group-index in
    let all = c.groups.all in
    let inv = c.groups.invariant in
    let x = c.group-item.result in
    let p = c.in-Some.prepared in
    let here : slice_get gs i ≡ Some x = slice_get-get_or gs i x c.groups-test.true ∙ ap Some (sym c.group-item.is) in
    let is : IsPrepared (asked_in rq) object x p = rw c.in-Some.is at c.in_ok-prepared.ensures in
    rw c.in_ok-push.ensures.ok
    (length-more all p i inv.0, more-known rq object gs all x p (ap (slice_get gs) inv.0 ∙ here) is inv.1)
