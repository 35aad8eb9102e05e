use Rattle.std.proofs.Common.{◌∙◌, ap, arith, sym, subst, ℕ, ◌+◌, ◌*◌, ◌≤◌, [], length, map, get_or, take_all, Some}
use Rattle.std.specs.Option.{option_map_or}
use Rattle.graphql_values.proofs.SameValueLemmas.{get_or_any}
use Rattle.graphql_bundles.specs.Conflicts.{places}
use Rattle.graphql_merging.specs.Pieces.{PieceField}
use Rattle.graphql_merging.specs.Tables.{pieces_of}
use Rattle.graphql_merging.specs.declared.table.WrittenSet.{WrittenSet}
use Rattle.graphql_bundles.specs.Counted.{fields_of_sets}
use Rattle.graphql_bundles.specs.Groups.{fields_in}
use Rattle.graphql_bundles.specs.Direct.{TellsDirect, TellsDirects}
use Rattle.graphql_bundles.proofs.Sums.{more-squares}
use Rattle.graphql_bundles.proofs.VisitLemmas.{directs-none, directs-more, direct-at, direct-none}
use Rattle.graphql_bundles.proofs.visits.direct_sets.Goals as goal
use Rattle.graphql_bundles.proofs.visits.direct_sets.Goals.{in-Some+in_ok-direct_set, in_default}

pub returns-clause-told : goal.returns-clause-told
returns-clause-told g c = λ fragments.
    subst (λ ns. TellsDirects g.S.PartialEq.eq c.args.schema.now.types (pieces_of fragments c.args.table.now) ns (places c.args.told.now) (places c.loop-number.told))
    (take_all c.loop-number.number-index c.args.sets.now c.loop-number-test.false) (c.loop-number.invariant.told fragments)

pub loop-number-init : goal.loop-number-init
loop-number-init g c = record {
  counted = omega arith;
  told = λ fragments. directs-none g.S.PartialEq.eq c.args.schema.now.types (pieces_of fragments c.args.table.now) (places c.args.told.now);
}

pub loop-number-preserved : goal.loop-number-preserved
loop-number-preserved g c = record {
  counted =
      let table = c.args.table.now in
      let i = c.loop-number.number-index in
      let x = get_or c.args.sets.now i 0 in
      let size = λ (n : ℕ). length (fields_in table n) in
      let before = c.args.comparisons.now in
      let old = c.loop-number.comparisons in
      more-squares size c.args.sets.now i x before old c.match-get.comparisons c.loop-number-test.true
      (get_or_any c.args.sets.now i 0 x c.loop-number-test.true) c.loop-number.invariant.counted
      (elim c.match-get.branch [
        | in-Some+in_ok-direct_set w ↦
            let fields = ap length (w.as_slice.ensures ∙ ap (λ o. option_map_or (λ (s : WrittenSet g.row.S.Denot g.row.C.Denot). s.fields) o []) w.in-Some.ensures) in
            subst (λ new. new ≤ old + size x * size x) (sym w.comparisons-is)
            (subst (λ n. w.direct_set.new.comparisons ≤ old + n * n) fields w.in_ok-direct_set.ensures.counted)
        | in_default w ↦ subst (λ new. new ≤ old + size x * size x) (sym w.comparisons-is) (omega arith)
      ]);
  told = λ fragments.
      let eq = g.S.PartialEq.eq in
      let types = c.args.schema.now.types in
      let t = pieces_of {C = g.row.C.Denot} fragments c.args.table.now in
      let i = c.loop-number.number-index in
      let x = get_or c.args.sets.now i 0 in
      directs-more eq types t c.args.sets.now i x (places c.args.told.now) (places c.loop-number.told) (places c.match-get.told) c.loop-number-test.true
      (get_or_any c.args.sets.now i 0 x c.loop-number-test.true) (c.loop-number.invariant.told fragments)
      (elim c.match-get.branch [
        | in-Some+in_ok-direct_set w ↦ subst (λ ts. TellsDirect eq types (map (λ (f : PieceField g.row.S.Denot g.row.C.Denot). f.member) (t.direct x)) (places c.loop-number.told) (places ts)) (sym w.told-is)
            (direct-at fragments c.args.table.now x eq types (Some w.in-Some.set.now) w.as_slice.result.now (places c.loop-number.told) (places w.direct_set.new.told)
            (sym w.in-Some.ensures) w.as_slice.ensures (w.in_ok-direct_set.ensures.told fragments))
        | in_default w ↦ subst (λ ts. TellsDirect eq types (map (λ (f : PieceField g.row.S.Denot g.row.C.Denot). f.member) (t.direct x)) (places c.loop-number.told) (places ts)) (sym w.told-is)
            (direct-none fragments c.args.table.now x eq types (places c.loop-number.told) (sym w.in_default.ensures))
      ]);
}

pub returns-clause-counted : goal.returns-clause-counted
returns-clause-counted g c =
    let size = fields_of_sets c.args.table.now in
    subst (λ ns. c.loop-number.comparisons ≤ c.args.comparisons.now + size ns * size ns)
    (take_all c.loop-number.number-index c.args.sets.now c.loop-number-test.false) c.loop-number.invariant.counted
