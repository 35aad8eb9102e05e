use Rattle.std.proofs.Common.{take}
use Rattle.graphql_rules_document.specs.Named.{fragment_names}
use Rattle.graphql_rules_document.specs.Searches.{Marks, spread_names}
use Rattle.graphql_rules_document.proofs.reached_fragments.ReachedFragments.mark_all.Given as goal

abbrev pub invariant-spreads : goal.invariant-spreads
invariant-spreads l = Marks (fragment_names l.index.fragments.now) (spread_names (take l.spread-index l.spreads)) l.initial.self.marks l.initial.self.waiting l.self.marks l.self.waiting
