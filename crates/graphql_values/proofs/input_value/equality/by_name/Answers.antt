use Rattle.std.proofs.Common.{rules, nat_cmp, is_lt}
use Rattle.std.specs.Cmp.Lexicographic.{slice_cmp}
use Rattle.std.proofs.lemmas.Cmp.{nat_list_cmp_total}
use Rattle.std.proofs.lemmas.Fn.{always_returns_same}
use Rattle.std.proofs.lemmas.List.Sorted.{ranks_by}
use Rattle.graphql_values.specs.declared.input_value.InputValue.TheVariants as value
use Rattle.graphql_values.proofs.ByNameLemmas.{put_by_name}
use Rattle.graphql_values.proofs.input_value.equality.by_name.Goals as goal

pub returns : goal.returns
returns g c =
    let stable = c.sort_by.ensures.stable (λ a b. is_lt (slice_cmp nat_cmp a.now.0.item b.now.0.item)) (ranks_by nat_list_cmp_total (λ b. b.now.0.item)) (always_returns_same _ _ _ (λ a r f' k. (search rules, search rules))) in
    let in_order = c.in_ok-sort_by.ensures.sorted (λ a b. is_lt (slice_cmp nat_cmp a.now.0.item b.now.0.item)) (ranks_by nat_list_cmp_total (λ b. b.now.0.item)) (always_returns_same _ _ _ (λ a r f' k. (search rules, search rules))) in
    put_by_name value.Null c.args.fields c.into_vec-sorted.result.items c.sort_by.new.self.items c.from_vec.result c.into_vec-sorted.ensures c.from_vec.ensures c.sort_by.ensures.permutation stable in_order
