use Rattle.std.proofs.Common.{map, take}
use Rattle.graphql_collect.specs.Grouped.{group_found}
use Rattle.graphql_collected.specs.Requests.{fragments_in}
use Rattle.graphql_mutation.specs.Mutations.{mutation_of}
use Rattle.graphql_mutation.proofs.SerialSteps.{SoFar}
use Rattle.graphql_mutation.proofs.serially.answer_serially.Given as goal

abbrev pub invariant-groups : goal.invariant-groups
invariant-groups g l =
    let s = g.S.ScalarValue in
    let rq = l.root.request.now in
    let m =
    mutation_of s.of_text s.of_bool s.answer rq (g.R.GraphQLValue.type_of l.resolver) (g.R.GraphQLValue.answer l.resolver)
    (g.R.GraphQLMutationValue.changes l.resolver) in
    SoFar m l.root.current_type.name.now l.fn.context
    (map (group_found (fragments_in rq)) (take l.group-index l.group-items)) l.members l.fn.errors l.errors l.context
