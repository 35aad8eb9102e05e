use Rattle.std.proofs.Common.{rules, is_lt, nat_cmp, ◌∙◌, refl, subst, sym}
use Rattle.std.specs.Cmp.Lexicographic.{slice_cmp}
use Rattle.std.proofs.lemmas.Cmp.{nat_list_cmp_total}
use Rattle.std.proofs.lemmas.Fn.{always_returns_same}
use Rattle.std.proofs.lemmas.List.Sorted.{ranks_by}
use Rattle.std.proofs.lemmas.Result.{err_from_is_err_and}
use Rattle.graphql_names.specs.Names.{IsByName}
use Rattle.graphql_names.proofs.NameMaps.{repeats, sorted_in_order, none_repeats}
use Rattle.graphql_names.proofs.name_map.NameMap.from_items.Goals as goal

pub returns-in_err-name-clause-repeated : goal.returns-in_err-name-clause-repeated
returns-in_err-name-clause-repeated g c =
    let error = err_from_is_err_and c.from_residual.result c.from_residual.ensures.1 in
    rw (error.1, error.2) (
      c.in-Some.name.now,
      repeats g.T.Named.name_of c.args.items c.into_vec-sorted.result.items c.sort_unstable_by.new.self.items c.deref.result.now c.into_vec-sorted.ensures
          c.sort_unstable_by.ensures.permutation c.deref.ensures.value c.in-Some.name.now c.in-Some.name.now c.in-Some.ensures refl,
    )

pub returns-in-Some-clause-repeated : goal.returns-in-Some-clause-repeated
returns-in-Some-clause-repeated g c =
    repeats g.T.Named.name_of c.args.items c.into_vec-sorted.result.items c.sort_unstable_by.new.self.items c.deref.result.now c.into_vec-sorted.ensures
    c.sort_unstable_by.ensures.permutation c.deref.ensures.value c.in-Some.name.now c.in_ok-name.name c.in-Some.ensures c.in_ok-name.ensures

pub invariant_of-result : goal.invariant_of-result
invariant_of-result g c =
    let ascending = c.sort_unstable_by.ensures.sorted (λ a b. is_lt (slice_cmp nat_cmp (g.T.Named.name_of a) (g.T.Named.name_of b))) (ranks_by nat_list_cmp_total g.T.Named.name_of)
    (always_returns_same _ _ _ (λ a r f' k. (search rules, search rules))) in
    rw (c.from_vec-items.ensures, ← c.deref.ensures.value)
    (sorted_in_order g.T.Named.name_of c.args.items c.into_vec-sorted.result.items c.sort_unstable_by.new.self.items c.deref.result.now c.into_vec-sorted.ensures
    c.sort_unstable_by.ensures.permutation c.deref.ensures.value ascending c.in_default.ensures)

pub returns-clause-once : goal.returns-clause-once
returns-clause-once g c =
    none_repeats g.T.Named.name_of c.args.items c.into_vec-sorted.result.items c.sort_unstable_by.new.self.items c.deref.result.now c.into_vec-sorted.ensures
    c.sort_unstable_by.ensures.permutation c.deref.ensures.value
    (subst (IsByName g.T.Named.name_of) (c.from_vec-items.ensures ∙ sym c.deref.ensures.value) (invariant_of-result g c))

pub returns-clause-by_name : goal.returns-clause-by_name
returns-clause-by_name g c = invariant_of-result g c
