use Rattle.std.proofs.Common.{take, sym, subst}
use Rattle.graphql_rules_document.specs.Named.{fragment_names}
use Rattle.graphql_rules_document.specs.Searches.{Marks, spread_names}
use Rattle.graphql_rules_document.proofs.MarkLemmas.{marks_both, more_spread}
use Rattle.graphql_rules_document.proofs.reached_fragments.ReachedFragments.mark_all.Goals as goal

pub spreads-preserved : goal.spreads-preserved
spreads-preserved c =
    let names = fragment_names c.args.index.now.fragments.now in
    let old = c.args.self.now in
    let new = c.mark_named.new.self in
    let mid = c.spreads.self in
    let spreads = c.args.spreads.now in
    let i = c.spreads.spread-index in
    let h = c.in_ok-mark_named.ensures in
    subst (λ more. Marks names more old.marks old.waiting new.marks new.waiting) (sym (more_spread spreads i _ c.spreads-test.true))
    (marks_both names (spread_names (take i spreads)) _ old.marks old.waiting mid.marks mid.waiting new.marks new.waiting c.spreads.invariant h)
