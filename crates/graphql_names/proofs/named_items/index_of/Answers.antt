use Rattle.std.proofs.Common.{rules, IsPermutation, is_lt, subst}
use Rattle.std.proofs.lemmas.Fn.{always_returns_same}
use Rattle.graphql_names.specs.Indexes.{place_cmp}
use Rattle.graphql_names.proofs.Indexes.{places_order}
use Rattle.graphql_names.proofs.named_items.index_of.Goals as goal

pub returns : goal.returns
returns g c =
    let ascending = c.sort_unstable_by.ensures.sorted (λ place other. is_lt (place_cmp g.T.Named.name_of c.args.items.now place other)) (places_order g.T.Named.name_of c.args.items.now)
    (always_returns_same _ _ _ (λ a r f' k. (search rules, search rules))) in
    rw c.from_vec.ensures (subst (λ places. IsPermutation places c.sort_unstable_by.new.self.items) c.in_ok-by_name.ensures c.sort_unstable_by.ensures.permutation, ascending)
