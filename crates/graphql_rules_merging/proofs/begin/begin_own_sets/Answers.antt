use Rattle.std.proofs.Common.{take_all, subst}
use Rattle.graphql_merging.specs.Tables.{pieces_of}
use Rattle.graphql_rules_merging.specs.Agenda.{listed_of, pair_of, PairOf, ListsPairs}
use Rattle.graphql_rules_merging.proofs.Begun.{begins_of_none, begins_of_more}
use Rattle.graphql_rules_merging.proofs.begin.begin_own_sets.Goals as goal

pub loop-field-init : goal.loop-field-init
loop-field-init g c = λ fragments.
    begins_of_none (pieces_of fragments c.args.table.now) (λ field. pair_of field.own field.own c.args.around) (λ field. Unit {0}) (λ field. Unit {0}) (listed_of c.args.agenda.now)

pub loop-field-preserved : goal.loop-field-preserved
loop-field-preserved g c = λ fragments.
    begins_of_more (pieces_of fragments c.args.table.now) (λ field. pair_of field.own field.own c.args.around) (λ field. Unit {0}) (λ field. Unit {0}) c.args.fields.now
    c.loop-field.field-index c.field-item.result (listed_of c.args.agenda.now) (listed_of c.loop-field.agenda) (listed_of c.begin_sets.new.agenda)
    c.loop-field-test.true c.field-item.is tt (c.loop-field.invariant fragments) (c.in_ok-begin_sets.ensures fragments)

pub returns : goal.returns
returns g c = λ fragments.
    subst
    (λ fields. ListsPairs (pieces_of fragments c.args.table.now) (PairOf (λ field. pair_of field.own field.own c.args.around) (λ field. Unit {0}) fields)
    (PairOf (λ field. pair_of field.own field.own c.args.around) (λ field. Unit {0}) fields) (listed_of c.args.agenda.now) (listed_of c.loop-field.agenda))
    (take_all c.loop-field.field-index c.args.fields.now c.loop-field-test.false) (c.loop-field.invariant fragments)
