use Rattle.std.specs.List.{All}
use Rattle.std.proofs.Common.{arith, ◌≡◌, ◌∙◌, sym, ap, subst, map, take, take_all, option_map}
use Rattle.graphql_collect.specs.Grouped.{all_found}
use Rattle.graphql_collected.specs.Requests.{fragments_in}
use Rattle.graphql_semantics.specs.Completion.{object_members}
use Rattle.graphql_semantics.specs.Evaluation.{evaluate, found_in, group, keyed}
use Rattle.graphql_semantics.specs.Outcomes.{outcome_map, together}
use Rattle.graphql_semantics.proofs.RunRepeats.{evaluate-groups}
use Rattle.graphql_written_out.specs.Repeats.{Repeats}
use Rattle.graphql_execution_walk.specs.Engines.{engine_of}
use Rattle.graphql_execution_walk.proofs.EngineParts.{engine-found}
use Rattle.graphql_execution_walk.specs.GivesOutcome.{GivesOutcome}
use Rattle.graphql_execution_walk.specs.Sets.{AreGroups, HasKey, selected_in, sets_in}
use Rattle.graphql_execution_walk.proofs.KeyLemmas.{groups-keyed}
use Rattle.graphql_execution_walk.proofs.OutcomeLemmas.{gives-map}
use Rattle.graphql_execution_walk.proofs.RootLemmas.{by_groups, groups-more, members-distinct}
use Rattle.graphql_execution_walk.proofs.selections.answer_selections.Goals as goal

pub answer_group-requires : goal.answer_group-requires
answer_group-requires g c =
    let fr = fragments_in c.args.executor.now.request.now in
    let items = c.as_slice-group-items.result.now in
    let x = c.group-item.result in
    let are = c.in_ok-groups.ensures in
    let keyed : All HasKey items = subst (All HasKey) (sym c.as_slice-group-items.ensures) (groups-keyed fr are.found c.in_ok-groups.groups are.groups) in (
      omega arith,
      (c.requires.settled, (c.requires.typed, subst HasKey (sym c.group-item.is) (keyed c.groups.group-index x c.groups-test.true))),
    )

pub groups-preserved : goal.groups-preserved
groups-preserved g c =
    let rq = c.args.executor.now.request.now in
    let ty = g.R.GraphQLValue.type_of c.args.resolver.now c.args.executor.now.context.now in
    let an = g.R.GraphQLValue.answer c.args.resolver.now c.args.executor.now.context.now in
    let e = engine_of g.S.ScalarValue.of_text g.S.ScalarValue.of_bool g.S.ScalarValue.answer rq ty an in
    let fr = fragments_in rq in
    let items = c.as_slice-group-items.result.now in
    let x = c.group-item.result in
    let object = c.args.object.now in
    let node = c.args.node.now in
    let old = c.args.report.now in
    let inv = c.groups.invariant in
    let one : GivesOutcome (group e (evaluate e) old.path object node x.0 (all_found fr x.1)) c.groups.report c.in_ok-value.value c.answer_group.new.report =
    subst (λ p. GivesOutcome (group e (evaluate e) p object node x.0 (all_found fr x.1)) c.groups.report c.in_ok-value.value c.answer_group.new.report) inv.path c.in_ok-value.ensures in
    groups-more fr e old.path object node items c.groups.group-index x old c.groups.report c.answer_group.new.report c.groups.members c.in_ok-value.value c.in_ok-members.members inv c.groups-test.true c.group-item.is one c.in_ok-members.ensures

pub object_of-requires : goal.object_of-requires
object_of-requires g c =
    let rq = c.args.executor.now.request.now in
    let ty = g.R.GraphQLValue.type_of c.args.resolver.now c.args.executor.now.context.now in
    let an = g.R.GraphQLValue.answer c.args.resolver.now c.args.executor.now.context.now in
    let e = engine_of g.S.ScalarValue.of_text g.S.ScalarValue.of_bool g.S.ScalarValue.answer rq ty an in
    let fr = fragments_in rq in
    let items = c.as_slice-group-items.result.now in
    let old = c.args.report.now in
    let whole : take c.groups.group-index items ≡ items = take_all _ _ c.groups-test.false in
    let inv : GivesOutcome (by_groups fr e old.path c.args.object.now c.args.node.now items) old c.groups.members c.groups.report = rw whole at c.groups.invariant in
    let are : AreGroups fr (selected_in g.S.ScalarValue.answer rq (sets_in rq c.args.executor.now.selected) c.args.object.now) items = rw c.as_slice-group-items.ensures c.in_ok-groups.ensures in
    members-distinct fr e old.path c.args.object.now c.args.node.now are.found items c.groups.members are.groups inv.is

pub returns : goal.returns
returns g c =
    let rq = c.args.executor.now.request.now in
    let ty = g.R.GraphQLValue.type_of c.args.resolver.now c.args.executor.now.context.now in
    let an = g.R.GraphQLValue.answer c.args.resolver.now c.args.executor.now.context.now in
    let e = engine_of g.S.ScalarValue.of_text g.S.ScalarValue.of_bool g.S.ScalarValue.answer rq ty an in
    let fr = fragments_in rq in
    let items = c.as_slice-group-items.result.now in
    let object = c.args.object.now in
    let node = c.args.node.now in
    let old = c.args.report.now in
    let sets = sets_in rq c.args.executor.now.selected in
    let whole : take c.groups.group-index items ≡ items = take_all _ _ c.groups-test.false in
    let inv : GivesOutcome (by_groups fr e old.path object node items) old c.groups.members c.groups.report = rw whole at c.groups.invariant in
    let are : AreGroups fr (selected_in g.S.ScalarValue.answer rq sets object) items = rw c.as_slice-group-items.ensures c.in_ok-groups.ensures in
    let repeats : Repeats are.found (found_in e object sets) = rw (engine-found g.S.ScalarValue.of_text g.S.ScalarValue.of_bool g.S.ScalarValue.answer rq ty an object sets) at are.repeats in
    let is : by_groups fr e old.path object node items ≡ evaluate e old.path object node sets =
    ap (λ hs. together (map (keyed e (evaluate e) old.path object node) hs)) are.groups ∙ evaluate-groups e old.path object node sets are.found repeats in
    rw c.object_of.ensures (subst (λ o. GivesOutcome (outcome_map object_members o) old (option_map object_members c.groups.members) c.groups.report) is (gives-map object_members (by_groups fr e old.path object node items) old c.groups.report c.groups.members inv))
