use Rattle.std.proofs.Common.{arith, ap, Some, None}
use Rattle.graphql_look_ahead.specs.Selections.{below_collected, selections_of}
use Rattle.graphql_look_ahead.proofs.SearchLemmas.{first-at, lists-found, lists-later, lists-none}
use Rattle.graphql_look_ahead.proofs.searching.steps.find_first.Goals as goal

pub returns-in-Some-clause-first : goal.returns-in-Some-clause-first
returns-in-Some-clause-first g c =
    lists-found g.S.ScalarValue.answer c.args.request.now c.args.key.now below_collected c.in-Below.fields.now c.fields.field-index c.field-item.result c.in-Some.found
    (selections_of c.args.selected) (ap selections_of c.in-Below.is) (omega arith) c.field-item.is c.fields.invariant.before
    (first-at g.S.ScalarValue.answer c.args.request.now c.args.key.now c.set_of-list.result.now (below_collected c.field-item.result) c.in_ok-found.field-0 (Some c.in-Some.found)
    c.set_of-list.ensures c.in-Some.is c.in_ok-found.ensures.first)

pub fields-preserved : goal.fields-preserved
fields-preserved g c = record {
  before = lists-later g.S.ScalarValue.answer c.args.request.now c.args.key.now below_collected c.in-Below.fields.now c.fields.field-index c.field-item.result (omega arith) c.field-item.is c.fields.invariant.before
      (first-at g.S.ScalarValue.answer c.args.request.now c.args.key.now c.set_of-list.result.now (below_collected c.field-item.result) c.in_ok-found.field-0 None
      c.set_of-list.ensures c.in_default.is c.in_ok-found.ensures.first);
  lack = c.in_ok-found.ensures.lack c.in_default.is;
}

pub returns-clause-first : goal.returns-clause-first
returns-clause-first g c =
    lists-none g.S.ScalarValue.answer c.args.request.now c.args.key.now below_collected c.in-Below.fields.now c.fields.field-index (selections_of c.args.selected) (ap selections_of c.in-Below.is) (omega arith)
    c.fields.invariant.before
