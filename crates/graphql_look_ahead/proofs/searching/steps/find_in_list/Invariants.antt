use Rattle.std.proofs.Common.{[], reverse, None, ◌∷◌}
use Rattle.graphql_collected.specs.Requests.{drops_in, fragments_in}
use Rattle.graphql_look_ahead.specs.FirstChild.{IsSearch, KeepsFirst, lists_left, turns_left}
use Rattle.graphql_look_ahead.proofs.searching.steps.find_in_list.Given as goal

abbrev pub invariant-tasks : goal.invariant-tasks
invariant-tasks g l = record {
  leads : KeepsFirst (drops_in g.S.ScalarValue.answer l.request) (fragments_in l.request) l.key ((None, l.list) ∷ []) (lists_left (reverse l.tasks));
  search : IsSearch (drops_in g.S.ScalarValue.answer l.request) (fragments_in l.request) l.key (reverse l.tasks) l.searched.keys;
}

abbrev pub decreases-tasks : goal.decreases-tasks
decreases-tasks g l = turns_left (fragments_in l.request) (reverse l.tasks)
