use Rattle.std.proofs.Common.{map, refl, subst}
use Rattle.graphql_rules_document.specs.Lent.{spread_of}
use Rattle.graphql_rules_document.specs.Named.{fragment_names}
use Rattle.graphql_rules_document.specs.Searches.{Marks, spread_names}
use Rattle.graphql_rules_document.proofs.SearchLemmas.{Searching, search_starts, search_follows, search_ends}
use Rattle.graphql_rules_document.proofs.reached_fragments.ReachedFragments.search.Goals as goal

pub waiting-init : goal.waiting-init
waiting-init c =
    let fragments = c.args.index.now.fragments.now in
    let spreads = c.args.spreads.now in
    let new = c.mark_all.new.self in
    search_starts fragments (map spread_of spreads) spreads refl c.begin.new.self.marks c.in_ok-begin.ensures.0 new.marks new.waiting
    (subst (λ w. Marks (fragment_names fragments) (spread_names spreads) c.begin.new.self.marks w new.marks new.waiting) c.in_ok-begin.ensures.1 c.in_ok-mark_all.ensures)

pub waiting-preserved : goal.waiting-preserved
waiting-preserved c =
    let fragments = c.args.index.now.fragments.now in
    search_follows fragments (map spread_of c.args.spreads.now) c.waiting.self.marks c.waiting.self.waiting c.pop.new.self c.in-Some.place c.in-Some.ensures c.waiting.invariant
    c.follow.new.self.marks c.follow.new.self.waiting c.in_ok-follow.ensures

pub returns : goal.returns
returns c =
    let fragments = c.args.index.now.fragments.now in
    search_ends fragments (map spread_of c.args.spreads.now) c.waiting.self.marks
    (subst (λ w. Searching fragments (map spread_of c.args.spreads.now) c.waiting.self.marks w) c.in_default.ensures.0 c.waiting.invariant)
