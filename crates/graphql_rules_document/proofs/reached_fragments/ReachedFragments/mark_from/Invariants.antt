use Rattle.std.proofs.Common.{◌≡◌, List, Some, suc, false}
use Rattle.std.specs.Option.{option_map_or}
use Rattle.graphql_names.specs.Names.{Bytes, is_one_of}
use Rattle.graphql_rules_document.specs.Named.{fragment_names, last_place}
use Rattle.graphql_rules_document.specs.Searches.{marks_of}
use Rattle.graphql_rules_document.proofs.MarkLemmas.{Chain}
use Rattle.graphql_rules_document.proofs.reached_fragments.ReachedFragments.mark_from.Given as goal

abbrev pub invariant-chain : goal.invariant-chain
invariant-chain l =
    (name : Bytes) (found : List Bytes) → last_place (fragment_names l.index.fragments.now) name ≡ Some l.last → is_one_of found name ≡ false → l.initial.self.marks ≡ marks_of (fragment_names l.index.fragments.now) found
    → Chain (fragment_names l.index.fragments.now) name l.initial.self.marks l.initial.self.waiting l.next l.self.marks l.self.waiting

abbrev pub decreases-chain : goal.decreases-chain
decreases-chain l = option_map_or suc l.next 0
