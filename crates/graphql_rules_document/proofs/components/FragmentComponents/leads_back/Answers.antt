use Rattle.std.proofs.Common.{◌≡◌, ◌<◌, ◌∷◌, [], get_or, length, map, refl, sym, ap, subst, ◌∙◌}
use Rattle.std.proofs.lemmas.Option.{get_or_from_slice_get, slice_get_within}
use Rattle.graphql_names.specs.Names.{is_one_of}
use Rattle.graphql_rules_document.specs.Components.{IsSame, component_of, number_in, number_of}
use Rattle.graphql_rules_document.specs.Lent.{fragment_of, spread_of}
use Rattle.graphql_rules_document.specs.Reached.{reached}
use Rattle.graphql_rules_document.proofs.ComponentLemmas.{greater_unreached, same_reached}
use Rattle.graphql_rules_document.proofs.UsesLemmas.{mark_is}
use Rattle.graphql_rules_document.proofs.components.FragmentComponents.leads_back.Goals as goal

pub returns-then-is_less : goal.returns-then-is_less
returns-then-is_less c are fragment there =
    let fragments = c.args.index.now.fragments.now in
    let components = c.args.self.now.components in
    let spread = c.args.spread.now in
    let place = c.args.place in
    let item = c.in-Some.fragment.now in
    let same : item ≡ fragment = c.in-Some.ensures.lookup.1 ∙ ap (λ fs. get_or fs place item) c.fragments.ensures ∙ get_or_from_slice_get fragments place fragment item there in
    let to = c.component-to.ensures ∙ ap (λ f. component_of fragments components f.name.now) same in
    let less = c.is_less.ensures c.if-is_less.true in
    sym (greater_unreached fragments components spread fragment.name.now (are.falling less.0)
    (subst (λ o. number_in o < number_of fragments components fragment.name.now) c.component-from.ensures (subst (λ o. number_in c.component-from.result < number_in o) to less.1)))

pub returns-then-is_same : goal.returns-then-is_same
returns-then-is_same c are fragment there =
    let fragments = c.args.index.now.fragments.now in
    let components = c.args.self.now.components in
    let place = c.args.place in
    let item = c.in-Some.fragment.now in
    let same : item ≡ fragment = c.in-Some.ensures.lookup.1 ∙ ap (λ fs. get_or fs place item) c.fragments.ensures ∙ get_or_from_slice_get fragments place fragment item there in
    let to = c.component-to.ensures ∙ ap (λ f. component_of fragments components f.name.now) same in
    sym (same_reached fragments components c.args.spread.now fragment.name.now are.told
    (subst (λ o. IsSame o (component_of fragments components fragment.name.now)) c.component-from.ensures (subst (λ o. IsSame c.component-from.result o) to (c.is_same.ensures c.if-is_same.true))))

pub returns : goal.returns
returns c are fragment there =
    let fragments = c.args.index.now.fragments.now in
    let names = reached (map fragment_of fragments) (spread_of c.args.spread.now ∷ []) in
    c.is_reached.ensures
    ∙ mark_is (λ f. is_one_of names f.name) fragments c.args.place fragment (slice_get_within fragments c.args.place fragment there) c.search.new.self.marks c.in_ok-search.ensures
    ∙ ap (λ f. is_one_of names f.name.now) (get_or_from_slice_get fragments c.args.place fragment fragment there)
