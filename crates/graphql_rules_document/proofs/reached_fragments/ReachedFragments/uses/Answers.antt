use Rattle.std.proofs.Common.{◌++◌, map, ◌∙◌}
use Rattle.std.specs.List.{filter, flat_map}
use Rattle.graphql_names.specs.Names.{is_one_of}
use Rattle.graphql_rules_document.specs.Lent.{fragment_of, spread_of, use_of}
use Rattle.graphql_rules_document.specs.Reached.{reached}
use Rattle.graphql_rules_document.proofs.reached_fragments.ReachedFragments.uses.Goals as goal

pub returns : goal.returns
returns g c =
    let fs = map fragment_of c.args.index.now.fragments.now in
    let names = reached fs (map spread_of c.as_slice.result.now) in
    let own = c.in_ok-extend_from_slice.ensures.ok ∙ (λ i. c.new-uses.ensures i ++ c.as_slice-2.ensures i) in
    c.in_ok-add_uses.ensures (λ f. is_one_of names f.name) c.in_ok-search.ensures
    ∙ (λ i. map use_of (own i) ++ flat_map (λ f. f.uses) (filter (λ f. is_one_of (reached fs (map spread_of (c.as_slice.ensures i))) f.name) fs))
