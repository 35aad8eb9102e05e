use Rattle.std.proofs.Common.{rules, ◌∙◌, subst, nat_cmp}
use Rattle.std.specs.Cmp.Lexicographic.{slice_cmp}
use Rattle.std.specs.List.Sorted.{IsBinarySearchResult}
use Rattle.std.proofs.lemmas.Fn.{always_returns_same}
use Rattle.graphql_names.proofs.name_map.NameMap.place_of.Goals as goal

pub returns-clause-place : goal.returns-clause-place
returns-clause-place g c =
    let compared = λ (item : g.row.T.Denot). slice_cmp nat_cmp (g.T.Named.name_of item) c.args.name.now in
    let found = c.binary_search_by.ensures.position compared (always_returns_same _ _ _ (λ a r f' k. (search rules, search rules))) in
    subst (λ items. IsBinarySearchResult compared items c.binary_search_by.result) (c.as_slice.ensures ∙ c.self.view_is) found
