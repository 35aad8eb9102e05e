use Rattle.std.proofs.Common.{◌≡◌, ◌∙◌, sym, Some, slice_get}
use Rattle.graphql_merging.specs.Tables.{pieces_of}
use Rattle.graphql_bundles.proofs.VisitLemmas.{walked-first, walked-more, walked-end}
use Rattle.graphql_bundles.proofs.visits.visited_sets.Goals as goal

pub loop-index-init : goal.loop-index-init
loop-index-init g c = λ fragments. walked-first (pieces_of {C = g.row.C.Denot} fragments c.args.table.now) c.args.definitions c.in_ok-sets.sets.keys c.in_ok-sets.ensures

pub loop-index-preserved : goal.loop-index-preserved
loop-index-preserved g c = λ fragments.
    let at : slice_get c.loop-index.sets.keys c.loop-index.index ≡ Some c.in-Some.number = sym c.get_index.ensures.key ∙ sym c.copied.ensures ∙ c.in-Some.is in
    walked-more (pieces_of {C = g.row.C.Denot} fragments c.args.table.now) c.args.definitions c.loop-index.index c.in-Some.number c.loop-index.sets.keys
    c.add_sets_of.new.sets.keys at (c.loop-index.invariant fragments) (c.in_ok-add_sets_of.ensures fragments)

pub returns-in_default : goal.returns-in_default
returns-in_default g c = λ fragments.
    walked-end (pieces_of {C = g.row.C.Denot} fragments c.args.table.now) c.args.definitions c.loop-index.index c.loop-index.sets.keys
    (sym c.get_index.ensures.key ∙ sym c.copied.ensures ∙ c.in_default.is) (c.loop-index.invariant fragments)
