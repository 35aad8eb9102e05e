use Rattle.std.proofs.Common.{◌<◌, suc, refl, sym, subst}
use Rattle.std.specs.Option.{option_map_or}
use Rattle.graphql_rules_document.specs.Named.{earlier_place, fragment_names}
use Rattle.graphql_rules_document.proofs.MarkLemmas.{chain_as, chain_ends, chain_goes_on, is_fresh}
use Rattle.graphql_rules_document.proofs.NamedLemmas.{earlier_below}
use Rattle.graphql_rules_document.proofs.reached_fragments.ReachedFragments.mark_from.Goals as goal

pub chain-smaller : goal.chain-smaller
chain-smaller c =
    let names = fragment_names c.args.index.now.fragments.now in
    subst (λ o. option_map_or suc o 0 < option_map_or suc c.chain.next 0) (sym c.earlier-next.ensures)
    (subst (λ o. option_map_or suc (earlier_place names c.in-Some.place) 0 < option_map_or suc o 0) (sym c.in-Some.is) (earlier_below names c.in-Some.place))

pub chain-preserved : goal.chain-preserved
chain-preserved c name found is absent was =
    let names = fragment_names c.args.index.now.fragments.now in
    let old = c.args.self.now in
    let before = chain_as names name old.marks old.waiting _ _ c.chain.self.marks _ c.chain.self.waiting _ c.in-Some.is refl refl (c.chain.invariant name found is absent was) in
    chain_as names name old.marks old.waiting _ _ _ _ _ _ (sym c.earlier-next.ensures) (sym c.in_ok-mark.ensures.0) (sym c.in_ok-mark.ensures.1)
    (chain_goes_on names name old.marks old.waiting c.in-Some.place c.chain.self.marks c.chain.self.waiting (is_fresh names name old.marks found was absent) before)

pub returns : goal.returns
returns c name found is absent was =
    let names = fragment_names c.args.index.now.fragments.now in
    let old = c.args.self.now in
    chain_ends names found name old.marks old.waiting c.chain.self.marks c.chain.self.waiting was
    (chain_as names name old.marks old.waiting _ _ c.chain.self.marks _ c.chain.self.waiting _ c.in_default.is refl refl (c.chain.invariant name found is absent was))
