use Rattle.std.proofs.Common.{rules, ◌∷◌, reverse, ◌≡◌, []}
use Rattle.graphql_look_ahead.proofs.SearchLemmas.{found-first, goes-leads, goes-search, none-first}
use Rattle.graphql_look_ahead.proofs.searching.steps.find_in_list.Goals as goal

pub returns-in-Some-2-clause-first : goal.returns-in-Some-2-clause-first
returns-in-Some-2-clause-first g c =
    found-first g.S.ScalarValue.answer c.args.request.now c.args.key.now c.args.list.now c.tasks.tasks c.pop.new.self (reverse c.turn.new.tasks) c.in-Some.task c.turn.new.searched.keys
    c.in_ok-found.field-0 c.in-Some-2.found c.tasks.invariant.leads c.in-Some.ensures c.in-Some-2.is c.in_ok-found.ensures

pub tasks-preserved : goal.tasks-preserved
tasks-preserved g c = record {
  leads = goes-leads g.S.ScalarValue.answer c.args.request.now c.args.key.now c.args.list.now c.tasks.tasks c.pop.new.self (reverse c.turn.new.tasks) c.in-Some.task c.turn.new.searched.keys
      c.in_ok-found.field-0 c.tasks.invariant.leads c.in-Some.ensures c.in_default-2.is c.in_ok-found.ensures;
  search = goes-search g.S.ScalarValue.answer c.args.request.now c.args.key.now (c.in-Some.task ∷ reverse c.pop.new.self) (reverse c.turn.new.tasks) c.turn.new.searched.keys
      c.in_ok-found.field-0 c.in_default-2.is c.in_ok-found.ensures;
}

pub returns-clause-first : goal.returns-clause-first
returns-clause-first g c =
    let none : c.tasks.tasks ≡ [] = search rules in
    none-first g.S.ScalarValue.answer c.args.request.now c.args.key.now c.args.list.now c.tasks.tasks c.tasks.invariant.leads none
