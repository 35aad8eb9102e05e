use Rattle.std.proofs.Common.{refl, take_all, ◌+◌, ◌++◌, ◌∷◌, []}
use Rattle.graphql_collected.specs.Requests.{fragments_in}
use Rattle.graphql_semantics.specs.Evaluation.{found_in}
use Rattle.graphql_execution_walk.specs.Sets.{AreGroups, sets_in}
use Rattle.graphql_execution_walk.proofs.EngineParts.{engine-found}
use Rattle.graphql_mutation.specs.Mutations.{mutation_of}
use Rattle.graphql_mutation.specs.Serial.{root_groups}
use Rattle.graphql_mutation.proofs.RunLemmas.{on_err}
use Rattle.graphql_mutation.proofs.SerialEnds.{begins-nowhere, members-distinct, run-broken, run-end, run-more, run-null, run-stopped}
use Rattle.graphql_mutation.proofs.SerialSteps.{so_far-first}
use Rattle.graphql_mutation.proofs.serially.answer_serially.Goals as goal

pub returns-in_err-groups-clause-begun : goal.returns-in_err-groups-clause-begun
returns-in_err-groups-clause-begun g c =
    let s = g.S.ScalarValue in
    let r = c.args.resolver.now in
    let rq = c.args.root.now.request.now in
    let type_of = g.R.GraphQLValue.type_of r in
    let answer = g.R.GraphQLValue.answer r in
    let m = mutation_of s.of_text s.of_bool s.answer rq type_of answer (g.R.GraphQLMutationValue.changes r) in
    let object = c.args.root.now.current_type.name.now in
    let start = c.args.context.now in
    let sets = sets_in rq c.args.root.now.selected in
    on_err c.from_residual.result _ (begins-nowhere m object start (root_groups m object start sets))

pub groups-init : goal.groups-init
groups-init g c =
    let s = g.S.ScalarValue in
    let r = c.args.resolver.now in
    let rq = c.args.root.now.request.now in
    let type_of = g.R.GraphQLValue.type_of r in
    let answer = g.R.GraphQLValue.answer r in
    let m = mutation_of s.of_text s.of_bool s.answer rq type_of answer (g.R.GraphQLMutationValue.changes r) in
    let object = c.args.root.now.current_type.name.now in
    let start = c.args.context.now in
    rw c.new-members.ensures (so_far-first m object start c.args.errors.now)

pub groups-preserved : goal.groups-preserved
groups-preserved g c =
    let s = g.S.ScalarValue in
    let r = c.args.resolver.now in
    let rq = c.args.root.now.request.now in
    let type_of = g.R.GraphQLValue.type_of r in
    let answer = g.R.GraphQLValue.answer r in
    let m = mutation_of s.of_text s.of_bool s.answer rq type_of answer (g.R.GraphQLMutationValue.changes r) in
    let object = c.args.root.now.current_type.name.now in
    let start = c.args.context.now in
    let old = c.args.errors.now in
    let fr = fragments_in rq in
    let items = c.as_slice-group-items.result.now in
    let i = c.groups.group-index in
    let before = c.groups in
    let x = c.group-item.result in
    let after = c.answer_group.new in
    run-more m object start fr items i before.members old before.errors before.context before.invariant
    x c.groups-test.true c.group-item.is after.errors after.context
    c.in-Some.value c.push_member.new.members (rw c.in-Some.is at c.in_ok-shown.ensures.run)
    c.in_ok-push_member-in-Some.ensures

pub returns-in-None-clause-run : goal.returns-in-None-clause-run
returns-in-None-clause-run g c =
    let s = g.S.ScalarValue in
    let r = c.args.resolver.now in
    let rq = c.args.root.now.request.now in
    let type_of = g.R.GraphQLValue.type_of r in
    let answer = g.R.GraphQLValue.answer r in
    let m = mutation_of s.of_text s.of_bool s.answer rq type_of answer (g.R.GraphQLMutationValue.changes r) in
    let object = c.args.root.now.current_type.name.now in
    let start = c.args.context.now in
    let old = c.args.errors.now in
    let fr = fragments_in rq in
    let sets = sets_in rq c.args.root.now.selected in
    let items = c.as_slice-group-items.result.now in
    let i = c.groups.group-index in
    let before = c.groups in
    let known = engine-found s.of_text s.of_bool s.answer rq (type_of start) (answer start) object sets in
    let are : AreGroups fr (found_in (m.engine start) object sets) items =
    rw c.as_slice-group-items.ensures (rw known at c.in_ok-groups.ensures) in
    let x = c.group-item.result in
    let after = c.answer_group.new in
    run-null m object start fr items i before.members old before.errors before.context before.invariant
    x c.groups-test.true c.group-item.is after.errors after.context
    sets are (rw c.in-None.is at c.in_ok-shown.ensures.run)

pub returns-in_err-shown-clause-begun : goal.returns-in_err-shown-clause-begun
returns-in_err-shown-clause-begun g c =
    let s = g.S.ScalarValue in
    let r = c.args.resolver.now in
    let rq = c.args.root.now.request.now in
    let type_of = g.R.GraphQLValue.type_of r in
    let answer = g.R.GraphQLValue.answer r in
    let m = mutation_of s.of_text s.of_bool s.answer rq type_of answer (g.R.GraphQLMutationValue.changes r) in
    let object = c.args.root.now.current_type.name.now in
    let start = c.args.context.now in
    let old = c.args.errors.now in
    let fr = fragments_in rq in
    let sets = sets_in rq c.args.root.now.selected in
    let items = c.as_slice-group-items.result.now in
    let i = c.groups.group-index in
    let before = c.groups in
    let known = engine-found s.of_text s.of_bool s.answer rq (type_of start) (answer start) object sets in
    let are : AreGroups fr (found_in (m.engine start) object sets) items =
    rw c.as_slice-group-items.ensures (rw known at c.in_ok-groups.ensures) in
    let x = c.group-item.result in
    let after = c.answer_group.new in
    let begun =
    run-broken m object start fr items i before.members old before.errors before.context before.invariant
    x c.groups-test.true c.group-item.is after.errors after.context
    sets are c.in_err-shown.ensures.begun in
    on_err c.from_residual-in_err-shown.result _ begun

pub returns-in_err-push_member-in-Some-clause-begun : goal.returns-in_err-push_member-in-Some-clause-begun
returns-in_err-push_member-in-Some-clause-begun g c =
    let s = g.S.ScalarValue in
    let r = c.args.resolver.now in
    let rq = c.args.root.now.request.now in
    let type_of = g.R.GraphQLValue.type_of r in
    let answer = g.R.GraphQLValue.answer r in
    let m = mutation_of s.of_text s.of_bool s.answer rq type_of answer (g.R.GraphQLMutationValue.changes r) in
    let object = c.args.root.now.current_type.name.now in
    let start = c.args.context.now in
    let old = c.args.errors.now in
    let fr = fragments_in rq in
    let sets = sets_in rq c.args.root.now.selected in
    let items = c.as_slice-group-items.result.now in
    let i = c.groups.group-index in
    let before = c.groups in
    let known = engine-found s.of_text s.of_bool s.answer rq (type_of start) (answer start) object sets in
    let are : AreGroups fr (found_in (m.engine start) object sets) items =
    rw c.as_slice-group-items.ensures (rw known at c.in_ok-groups.ensures) in
    let x = c.group-item.result in
    let after = c.answer_group.new in
    let members = before.members ++ (x.0, c.in-Some.value) ∷ [] in
    let far =
    run-more m object start fr items i before.members old before.errors before.context before.invariant
    x c.groups-test.true c.group-item.is after.errors after.context
    c.in-Some.value members (rw c.in-Some.is at c.in_ok-shown.ensures.run) refl in
    on_err c.from_residual-in_err-push_member-in-Some.result _
    (run-stopped m object start fr items (i + 1) members old after.errors after.context far sets are)

pub from_distinct-requires : goal.from_distinct-requires
from_distinct-requires g c =
    let s = g.S.ScalarValue in
    let r = c.args.resolver.now in
    let rq = c.args.root.now.request.now in
    let type_of = g.R.GraphQLValue.type_of r in
    let answer = g.R.GraphQLValue.answer r in
    let m = mutation_of s.of_text s.of_bool s.answer rq type_of answer (g.R.GraphQLMutationValue.changes r) in
    let object = c.args.root.now.current_type.name.now in
    let start = c.args.context.now in
    let old = c.args.errors.now in
    let fr = fragments_in rq in
    let sets = sets_in rq c.args.root.now.selected in
    let items = c.as_slice-group-items.result.now in
    let i = c.groups.group-index in
    let before = c.groups in
    let known = engine-found s.of_text s.of_bool s.answer rq (type_of start) (answer start) object sets in
    let are : AreGroups fr (found_in (m.engine start) object sets) items =
    rw c.as_slice-group-items.ensures (rw known at c.in_ok-groups.ensures) in
    members-distinct m object start fr items i before.members old before.errors before.context before.invariant
    sets are (take_all _ _ c.groups-test.false)

pub returns-clause-run : goal.returns-clause-run
returns-clause-run g c =
    let s = g.S.ScalarValue in
    let r = c.args.resolver.now in
    let rq = c.args.root.now.request.now in
    let type_of = g.R.GraphQLValue.type_of r in
    let answer = g.R.GraphQLValue.answer r in
    let m = mutation_of s.of_text s.of_bool s.answer rq type_of answer (g.R.GraphQLMutationValue.changes r) in
    let object = c.args.root.now.current_type.name.now in
    let start = c.args.context.now in
    let old = c.args.errors.now in
    let fr = fragments_in rq in
    let sets = sets_in rq c.args.root.now.selected in
    let items = c.as_slice-group-items.result.now in
    let i = c.groups.group-index in
    let before = c.groups in
    let known = engine-found s.of_text s.of_bool s.answer rq (type_of start) (answer start) object sets in
    let are : AreGroups fr (found_in (m.engine start) object sets) items =
    rw c.as_slice-group-items.ensures (rw known at c.in_ok-groups.ensures) in
    let run =
    run-end m object start fr items i before.members old before.errors before.context before.invariant
    sets are (take_all _ _ c.groups-test.false) in
    rw c.from_distinct.ensures run
