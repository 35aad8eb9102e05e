use Rattle.std.proofs.Common.{◌≡◌, ◌++◌, sym, subst, ◌∙◌}
use Rattle.std.specs.List.Sorted.{IsPermutation}
use Rattle.graphql_validation.proofs.all_rules.in_order.Goals as goal

pub returns-clause-permutation : goal.returns-clause-permutation
returns-clause-permutation c =
    let all : c.into_vec-all.result.items ≡ c.args.errors ++ c.args.more = c.into_vec-all.ensures ∙ c.in_ok-append.ensures.ok.0 in
    subst (IsPermutation (c.args.errors ++ c.args.more)) (sym c.from_vec.ensures) (subst (λ old. IsPermutation old c.sort_unstable.new.self.items) all c.sort_unstable.ensures.permutation)
