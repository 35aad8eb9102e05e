use Rattle.std.proofs.Common.{[], ◌≤◌, length, sym, ap, subst}
use Rattle.std.specs.Option.{option_map_or}
use Rattle.std.proofs.lemmas.Option.{slice_get_past}
use Rattle.graphql_rules_document.specs.Named.{fragment_names}
use Rattle.graphql_rules_document.specs.Searches.{Marks, spread_names}
use Rattle.graphql_rules_document.proofs.MarkLemmas.{marks_nothing}
use Rattle.graphql_rules_document.proofs.reached_fragments.ReachedFragments.follow.Goals as goal

pub returns-in-None : goal.returns-in-None
returns-in-None c =
    let fragments = c.args.index.now.fragments.now in
    let names = fragment_names fragments in
    let old = c.args.self.now in
    let past : length fragments ≤ c.args.place = subst (λ fs. length fs ≤ c.args.place) c.fragments.ensures c.in-None.ensures.lookup.3 in
    subst (λ more. Marks names more old.marks old.waiting old.marks old.waiting) (sym (ap (λ o. option_map_or (λ f. spread_names f.spreads) o []) (slice_get_past fragments c.args.place past)))
    (marks_nothing names old.marks old.waiting)
