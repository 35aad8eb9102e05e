use Rattle.std.proofs.Common.{arith, rules, length, [], refl, ap, sym, subst}
use Rattle.graphql_bundles.specs.Conflicts.{places}
use Rattle.graphql_merging.specs.Tables.{pieces_of}
use Rattle.graphql_rules_merging.specs.Classes.{AreAllNumbered}
use Rattle.graphql_rules_merging.specs.Agenda.{listed_of, Takes, NoneWaits}
use Rattle.graphql_rules_merging.specs.Comparing.{stage_of}
use Rattle.graphql_rules_merging.proofs.Underway.{IsUnderway, underway_first, underway_more, underway_last}
use Rattle.graphql_rules_merging.proofs.Measure.{ahead_less, full_below}
use Rattle.graphql_rules_merging.proofs.Spare.{ordered-first, ordered-more, spare-first, spare-less}
use Rattle.graphql_rules_merging.proofs.finish.merge_errors.Goals as goal

pub pairs-smaller : goal.pairs-smaller
pairs-smaller g c =
    let taken : Takes c.in-Some.pair (listed_of c.pairs.progress.agenda) (listed_of c.next.new.self) = search rules in
    let below = full_below [] c.args.table.now c.in-Some.pair ((c.pairs.invariant.underway []).full c.in-Some.pair taken.waited) in
    ahead_less (length c.args.table.now.sets) c.in-Some.pair (listed_of c.pairs.progress.agenda) (listed_of c.next.new.self) (listed_of c.compare_sets.new.progress.agenda)
    below.0 below.1 taken (λ k. (c.in_ok-compare_sets.ensures.compared []).begun.given k)

pub returns-clause-finished : goal.returns-clause-finished
returns-clause-finished g c = λ fragments.
    let none : NoneWaits (listed_of c.pairs.progress.agenda) (listed_of c.next.new.self) = search rules in (
      stage_of (record { told = c.pairs.progress.told; agenda = c.next.new.self; comparisons = c.pairs.progress.comparisons }),
      refl,
      underway_last g.S.PartialEq.eq c.args.schema.now.types (pieces_of fragments c.args.table.now) c.args.definitions (stage_of c.pairs.progress) (listed_of c.next.new.self) none
          (c.pairs.invariant.underway fragments),
    )

pub returns-clause-counted : goal.returns-clause-counted
returns-clause-counted g c = omega (arith, c.pairs.invariant.counted)

pub pairs-init : goal.pairs-init
pairs-init g c = record {
  underway = λ fragments.
      let t = pieces_of fragments c.args.table.now in
      let eq = g.S.PartialEq.eq in
      let types = c.args.schema.now.types in
      let listed = listed_of c.begin_definitions.new.agenda in
      subst (λ told. IsUnderway eq types t c.args.definitions (record { told = told; listed = listed })) (sym (ap places c.new.ensures))
      (underway_first eq types t c.args.definitions (listed_of c.new-2.result) listed c.new-2.ensures (c.in_ok-begin_definitions.ensures fragments));
  ordered =
      ordered-first (pieces_of {C = g.row.C.Denot} [] c.args.table.now) c.args.definitions (listed_of c.new-2.result) (listed_of c.begin_definitions.new.agenda)
      c.new-2.ensures (c.in_ok-begin_definitions.ensures []);
  counted =
      let most = spare-first c.args.table.now (listed_of c.begin_definitions.new.agenda) in
      omega (arith, most);
}

pub pairs-preserved : goal.pairs-preserved
pairs-preserved g c = record {
  underway = λ fragments.
      let taken : Takes c.in-Some.pair (listed_of c.pairs.progress.agenda) (listed_of c.next.new.self) = search rules in
      underway_more g.S.PartialEq.eq c.args.schema.now.types (pieces_of fragments c.args.table.now) c.args.definitions (stage_of c.pairs.progress)
      (stage_of c.compare_sets.new.progress) c.in-Some.pair (listed_of c.next.new.self) taken (c.pairs.invariant.underway fragments) (c.in_ok-compare_sets.ensures.compared fragments);
  ordered =
      let taken : Takes c.in-Some.pair (listed_of c.pairs.progress.agenda) (listed_of c.next.new.self) = search rules in
      ordered-more (pieces_of {C = g.row.C.Denot} [] c.args.table.now) g.S.PartialEq.eq c.args.schema.now.types c.in-Some.pair (listed_of c.pairs.progress.agenda) (listed_of c.next.new.self)
      (listed_of c.compare_sets.new.progress.agenda) taken (c.in_ok-compare_sets.ensures.compared []).begun c.pairs.invariant.ordered;
  counted =
      let pair = c.in-Some.pair in
      let taken : Takes pair (listed_of c.pairs.progress.agenda) (listed_of c.next.new.self) = search rules in
      let below = full_below [] c.args.table.now pair ((c.pairs.invariant.underway []).full pair taken.waited) in
      let less = spare-less c.args.table.now pair (listed_of c.pairs.progress.agenda) (listed_of c.next.new.self) (listed_of c.compare_sets.new.progress.agenda)
      (c.pairs.invariant.ordered pair taken.waited) below.1 taken (λ k. (c.in_ok-compare_sets.ensures.compared []).begun.given k) in
      omega (arith, less, c.pairs.invariant.counted, c.in_ok-compare_sets.ensures.counted);
}

pub compare_sets-requires : goal.compare_sets-requires
compare_sets-requires g c =
    subst (AreAllNumbered g.S.PartialEq.eq c.args.schema.now.types c.args.table.now) (sym c.as_slice-numbers.ensures.value) c.in_ok-numbers.ensures
