use Rattle.std.proofs.Common.{◌≤◌, List, Result}
use Rattle.graphql_grammar.specs.Input.{Fault, Located, left}
use Rattle.graphql_language.specs.Parser.{State}
use Rattle.graphql_language.specs.Lists.{Until, Item}
use Rattle.graphql_language.proofs.parser.Parser.items_until.Given as goal

abbrev pub invariant-items : goal.invariant-items
invariant-items g l = record {
  goes_on : (r : Result (List g.row.T.Denot × Located) Fault) (t : State) → Until l.closing (Item g.F.Fn l.parse) l.found l.self r t → Until l.closing (Item g.F.Fn l.parse) l.fn.found l.fn.self r t;
  no_more : left l.self.input ≤ left l.fn.self.input;
}

abbrev pub decreases-items : goal.decreases-items
decreases-items g l = left l.self.input
