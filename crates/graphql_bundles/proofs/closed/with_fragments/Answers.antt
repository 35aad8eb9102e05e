use Rattle.std.proofs.Common.{◌≡◌, ◌∙◌, sym, ap, subst, ◌+◌, [], Some, take, slice_get}
use Rattle.std.specs.Option.{option_map_or}
use Rattle.graphql_merging.specs.declared.table.WrittenSet.{WrittenSet}
use Rattle.graphql_merging.specs.Tables.{pieces_of}
use Rattle.graphql_bundles.specs.Closed.{IsOpened}
use Rattle.graphql_bundles.proofs.ClosedLemmas.{opened-at, opened-end, adds-none}
use Rattle.graphql_bundles.proofs.closed.with_fragments.Goals as goal
use Rattle.graphql_bundles.proofs.closed.with_fragments.Goals.{in-Some-get+in_ok-add_numbers-2, in_default-get}

pub returns-in_default : goal.returns-in_default
returns-in_default g c = λ fragments.
    opened-end (pieces_of fragments c.args.table.now) c.args.sets.now c.loop-index.index c.loop-index.all.keys
    (sym c.get_index.ensures.key ∙ sym c.copied.ensures ∙ c.in_default.is) (c.loop-index.invariant fragments)

pub loop-index-preserved : goal.loop-index-preserved
loop-index-preserved g c = λ fragments.
    let t = pieces_of {C = g.row.C.Denot} fragments c.args.table.now in
    let i = c.loop-index.index in
    let at : slice_get c.loop-index.all.keys i ≡ Some c.in-Some.number = sym c.get_index.ensures.key ∙ sym c.copied.ensures ∙ c.in-Some.is in
    elim c.match-get.branch [
      | in-Some-get+in_ok-add_numbers-2 w ↦ subst (λ ks. IsOpened t c.args.sets.now (take (i + 1) ks) ks) (sym (ap (λ a. a.keys) w.all-is))
          (opened-at t c.args.sets.now i c.in-Some.number c.loop-index.all.keys w.add_numbers-in-Some-get.new.sets.keys w.as_slice.result.now at (c.loop-index.invariant fragments)
          (ap (λ o. option_map_or (λ (s : WrittenSet g.row.S.Denot g.row.C.Denot). s.inner) o []) (sym w.in-Some-get.ensures) ∙ sym w.as_slice.ensures)
          w.in_ok-add_numbers-2.ensures)
      | in_default-get w ↦ subst (λ ks. IsOpened t c.args.sets.now (take (i + 1) ks) ks) (sym (ap (λ a. a.keys) w.all-is))
          (opened-at t c.args.sets.now i c.in-Some.number c.loop-index.all.keys c.loop-index.all.keys [] at (c.loop-index.invariant fragments)
          (ap (λ o. option_map_or (λ (s : WrittenSet g.row.S.Denot g.row.C.Denot). s.inner) o []) (sym w.in_default-get.ensures))
          (adds-none c.loop-index.all.keys))
    ]
