use Rattle.std.proofs.Common.{◌∙◌, ◌+◌, ◌-◌, ◌≤◌, ap, arith, List, ℕ, Some, length, filter, map, false, subst, take_all}
use Rattle.std.proofs.lemmas.List.Sums.{sum_by_more}
use Rattle.graphql_bundles.specs.Conflicts.{places}
use Rattle.graphql_merging.specs.Tables.{piece_field}
use Rattle.graphql_bundles.specs.Counted.{repeats_in_parts}
use Rattle.graphql_bundles.specs.Groups.{is_of}
use Rattle.graphql_bundles.specs.Steps.{Compares, IsFoundOf}
use Rattle.graphql_bundles.proofs.CompareLemmas.{SomeParts, parts-first, parts-more}
use Rattle.graphql_bundles.proofs.heads.compare_parts.Goals as goal

pub returns-clause-told : goal.returns-clause-told
returns-clause-told g c = λ fragments.
    subst (λ ns. Compares (IsFoundOf g.S.PartialEq.eq c.args.schema.now.types false (map (piece_field fragments) c.args.group.now))
    (SomeParts g.S.PartialEq.eq c.args.schema.now.types fragments c.args.group.now ns) (places c.args.told.now) (places c.loop-name.told))
    (take_all c.loop-name.name-index c.args.names.now c.loop-name-test.false) (c.loop-name.invariant.told fragments)

pub returns-clause-counted : goal.returns-clause-counted
returns-clause-counted g c =
    subst (λ ns. c.loop-name.comparisons ≤ c.args.comparisons.now + repeats_in_parts c.args.group.now ns)
    (take_all c.loop-name.name-index c.args.names.now c.loop-name-test.false) c.loop-name.invariant.counted

pub loop-name-init : goal.loop-name-init
loop-name-init g c = record {
  counted = omega arith;
  told = λ fragments. parts-first g.S.PartialEq.eq c.args.schema.now.types fragments c.args.group.now (places c.args.told.now);
}

pub loop-name-preserved : goal.loop-name-preserved
loop-name-preserved g c = record {
  counted =
      let names = c.args.names.now in
      let i = c.loop-name.name-index in
      let size = λ (name : List ℕ). length (filter (is_of (Some name)) c.args.group.now) - 1 in
      let more = sum_by_more size names i c.name-item.result c.loop-name-test.true in
      let here = ap size (c.as_str.ensures ∙ c.name-item.is) in
      omega (arith, more, here, c.loop-name.invariant.counted, c.in_ok-compare_part.ensures.counted);
  told = λ fragments.
      parts-more g.S.PartialEq.eq c.args.schema.now.types fragments c.args.group.now c.args.names.now c.loop-name.name-index c.name-item.result c.as_str.result.now
      (places c.args.told.now) (places c.loop-name.told) (places c.compare_part.new.told) c.loop-name-test.true c.name-item.is c.as_str.ensures
      (c.loop-name.invariant.told fragments) (c.in_ok-compare_part.ensures.told fragments);
}
