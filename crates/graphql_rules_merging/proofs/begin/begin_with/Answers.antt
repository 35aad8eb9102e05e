use Rattle.std.proofs.Common.{take_all, subst, get_or}
use Rattle.graphql_merging.specs.Tables.{pieces_of}
use Rattle.graphql_values.proofs.SameValueLemmas.{get_or_any}
use Rattle.graphql_rules_merging.specs.Agenda.{listed_of, pair_of, PairOf, ListsPairs}
use Rattle.graphql_rules_merging.proofs.Begun.{begins_of_none, begins_of_more}
use Rattle.graphql_rules_merging.proofs.begin.begin_with.Goals as goal

pub loop-number-init : goal.loop-number-init
loop-number-init g c = λ fragments.
    begins_of_none (pieces_of fragments c.args.table.now) (λ number. pair_of number c.args.other c.args.around) (λ number. Unit {0}) (λ number. Unit {0}) (listed_of c.args.agenda.now)

pub loop-number-preserved : goal.loop-number-preserved
loop-number-preserved g c = λ fragments.
    let number = get_or c.args.numbers.now c.loop-number.number-index 0 in
    begins_of_more (pieces_of fragments c.args.table.now) (λ number. pair_of number c.args.other c.args.around) (λ number. Unit {0}) (λ number. Unit {0}) c.args.numbers.now
    c.loop-number.number-index number (listed_of c.args.agenda.now) (listed_of c.loop-number.agenda) (listed_of c.begin_sets.new.agenda)
    c.loop-number-test.true (get_or_any c.args.numbers.now c.loop-number.number-index 0 number c.loop-number-test.true) tt (c.loop-number.invariant fragments)
    (c.in_ok-begin_sets.ensures fragments)

pub returns : goal.returns
returns g c = λ fragments.
    subst
    (λ numbers. ListsPairs (pieces_of fragments c.args.table.now) (PairOf (λ number. pair_of number c.args.other c.args.around) (λ number. Unit {0}) numbers)
    (PairOf (λ number. pair_of number c.args.other c.args.around) (λ number. Unit {0}) numbers) (listed_of c.args.agenda.now) (listed_of c.loop-number.agenda))
    (take_all c.loop-number.number-index c.args.numbers.now c.loop-number-test.false) (c.loop-number.invariant fragments)
