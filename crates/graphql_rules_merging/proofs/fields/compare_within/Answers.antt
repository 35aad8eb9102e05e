use Rattle.std.proofs.Common.{ℕ, ◌-◌, ◌≡◌, ◌∙◌, ◌+◌, ◌*◌, ap, arith, length, length-drop, map, drop, take, subst, sym, []}
use Rattle.std.proofs.lemmas.List.{drop_all}
use Rattle.graphql_merging.specs.Tables.{pieces_of, piece_field}
use Rattle.graphql_rules_merging.specs.Comparing.{with_each, later, stage_of, Compares}
use Rattle.graphql_rules_merging.proofs.Weights.{later-square}
use Rattle.graphql_rules_merging.proofs.Comparisons.{later_more, compares_none, compares_both}
use Rattle.std.specs.List.{Contains}
use Rattle.std.proofs.lemmas.List.{take-append-drop}
use Rattle.std.proofs.lemmas.List.Elements.{Contains-append_right}
use Rattle.graphql_bundles.proofs.ListLemmas.{at-place}
use Rattle.graphql_rules_merging.proofs.Classing.{numbered-with}
use Rattle.graphql_rules_merging.proofs.fields.compare_within.Goals as goal

pub returns-clause-compared : goal.returns-clause-compared
returns-clause-compared g c = λ fragments.
    let past : drop c.loop-index.index c.args.fields.now ≡ [] = drop_all c.loop-index.index c.args.fields.now c.loop-index-test.false in
    c.loop-index.invariant.compared fragments (stage_of c.loop-index.progress)
    (subst (λ rest. Compares g.S.PartialEq.eq c.args.schema.now.types (pieces_of fragments c.args.table.now) c.args.around (later (map (piece_field fragments) rest))
    (stage_of c.loop-index.progress) (stage_of c.loop-index.progress)) (sym past)
    (compares_none g.S.PartialEq.eq c.args.schema.now.types (pieces_of fragments c.args.table.now) c.args.around (stage_of c.loop-index.progress)))

pub returns-clause-counted : goal.returns-clause-counted
returns-clause-counted g c = omega (arith, c.loop-index.invariant.counted)

none : (n : ℕ) → n - 0 ≡ n
none n = omega arith

pub loop-index-init : goal.loop-index-init
loop-index-init g c = record {
  counted =
      let n = length c.args.fields.now in
      let whole = ap (λ k. k * k) (none n) in
      omega (arith, whole);
  compared = λ fragments new h. h;
}

pub loop-index-preserved : goal.loop-index-preserved
loop-index-preserved g c = record {
  counted =
      let fields = c.args.fields.now in
      let i = c.loop-index.index in
      let behind = ap length c.after.ensures ∙ length-drop (i + 1) fields in
      later-square i (length fields) c.loop-index.progress.comparisons c.compare_with.new.progress.comparisons
      (2 * c.args.progress.now.comparisons + length fields * length fields) c.loop-index-test.true
      (omega (arith, behind, c.in_ok-compare_with.ensures.counted)) c.loop-index.invariant.counted;
  compared = λ fragments new h.
      let first = piece_field fragments c.index-fields-index.result in
      let rest = map (piece_field fragments) (drop (c.loop-index.index + 1) c.args.fields.now) in
      c.loop-index.invariant.compared fragments new
      (subst (λ ps. Compares g.S.PartialEq.eq c.args.schema.now.types (pieces_of fragments c.args.table.now) c.args.around ps (stage_of c.loop-index.progress) new)
      (later_more (piece_field fragments) c.args.fields.now c.loop-index.index c.index-fields-index.result c.loop-index-test.true c.index-fields-index.is)
      (compares_both g.S.PartialEq.eq c.args.schema.now.types (pieces_of fragments c.args.table.now) c.args.around (with_each first rest) (later rest)
      (stage_of c.loop-index.progress) (stage_of c.compare_with.new.progress) new
      (subst (λ others. Compares g.S.PartialEq.eq c.args.schema.now.types (pieces_of fragments c.args.table.now) c.args.around (with_each first (map (piece_field fragments) others))
      (stage_of c.loop-index.progress) (stage_of c.compare_with.new.progress)) c.after.ensures (c.in_ok-compare_with.ensures.compared fragments))
      h));
}

pub compare_with-requires : goal.compare_with-requires
compare_with-requires g c =
    let fields = c.args.fields.now in
    let i = c.loop-index.index in
    numbered-with g.S.PartialEq.eq c.args.schema.now.types c.args.numbers.now c.index-fields-index.result fields fields c.after.result.now
    (at-place fields i c.index-fields-index.result c.loop-index-test.true c.index-fields-index.is)
    (λ h k. subst (λ fs. Contains fs h) (take-append-drop (i + 1) fields)
    (Contains-append_right (take (i + 1) fields) (drop (i + 1) fields) h (subst (λ fs. Contains fs h) c.after.ensures k)))
    c.requires
