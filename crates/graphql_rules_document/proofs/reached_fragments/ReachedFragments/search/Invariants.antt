use Rattle.std.proofs.Common.{◌+◌, length, map}
use Rattle.graphql_rules_document.specs.Lent.{spread_of}
use Rattle.graphql_rules_document.specs.Searches.{unmarked}
use Rattle.graphql_rules_document.proofs.SearchLemmas.{Searching}
use Rattle.graphql_rules_document.proofs.reached_fragments.ReachedFragments.search.Given as goal

abbrev pub invariant-waiting : goal.invariant-waiting
invariant-waiting l = Searching l.index.fragments.now (map spread_of l.spreads) l.self.marks l.self.waiting

abbrev pub decreases-waiting : goal.decreases-waiting
decreases-waiting l = unmarked l.self.marks + length l.self.waiting
