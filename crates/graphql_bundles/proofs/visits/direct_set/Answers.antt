use Rattle.std.proofs.Common.{◌∙◌, ap, sym, subst, ◌+◌, ◌*◌, ◌≤◌, OnOk}
use Rattle.graphql_bundles.specs.Counted.{fields_of_groups}
use Rattle.graphql_bundles.specs.Groups.{IsGrouped}
use Rattle.graphql_bundles.proofs.visits.direct_set.Goals as goal

pub direct_groups-requires : goal.direct_groups-requires
direct_groups-requires g c = subst (IsGrouped c.args.fields.now) (sym c.as_slice.ensures) c.in_ok-groups.ensures.grouped

pub returns-clause-told : goal.returns-clause-told
returns-clause-told g c = c.direct_groups.ensures.told

pub returns-clause-counted : goal.returns-clause-counted
returns-clause-counted g c =
    let whole = ap fields_of_groups c.as_slice.ensures ∙ c.in_ok-groups.ensures.whole in
    subst (λ n. OnOk c.direct_groups.result (c.direct_groups.new.comparisons ≤ c.args.comparisons.now + n * n)) whole c.direct_groups.ensures.counted
