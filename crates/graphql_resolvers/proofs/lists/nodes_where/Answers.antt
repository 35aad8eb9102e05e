use Rattle.std.proofs.Common.{Some, None, sym, ◌∙◌, rules}
use Rattle.std.proofs.lemmas.List.{append-nil}
use Rattle.graphql_resolvers.proofs.KeptTurns.{kept_turn}
use Rattle.graphql_resolvers.proofs.lists.nodes_where.Goals.{in-Some+in_ok-push-in-Some, in-None}
use Rattle.graphql_resolvers.proofs.lists.nodes_where.Goals as goal

pub places-preserved : goal.places-preserved
places-preserved g c = λ wanted by.
    let this = c.index-items-place.result in
    let means = sym (by c.places.place _ c.choose.result c.choose.ensures) in
    elim c.match-choose.branch [
      | in-Some+in_ok-push-in-Some w ↦ kept_turn wanted c.args.items.now c.places.place this c.places.found c.places-test.true (sym c.index-items-place.is) (c.places.invariant wanted by)
          (Some w.in-Some.node) c.match-choose.found (means ∙ w.in-Some.is) (search rules)
      | in-None w ↦ kept_turn wanted c.args.items.now c.places.place this c.places.found c.places-test.true (sym c.index-items-place.is) (c.places.invariant wanted by)
          None c.match-choose.found (means ∙ w.in-None.is) (w.found-is ∙ sym (append-nil c.places.found))
    ]
