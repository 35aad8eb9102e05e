use Rattle.std.proofs.Common.{take}
use Rattle.graphql_execution_walk.specs.Evaluations.{evaluation_at}
use Rattle.graphql_execution_walk.specs.GivesOutcome.{GivesOutcome}
use Rattle.graphql_execution_walk.proofs.RootLemmas.{by_groups}
use Rattle.graphql_execution_walk.proofs.selections.answer_selections.Given as goal

abbrev pub invariant-groups : goal.invariant-groups
invariant-groups g l =
    let here = evaluation_at g.S.ScalarValue.of_text g.S.ScalarValue.of_bool g.S.ScalarValue.answer (g.R.GraphQLValue.root_node l.resolver) (g.R.GraphQLValue.type_of l.resolver) (g.R.GraphQLValue.answer l.resolver) l.executor in
    GivesOutcome (by_groups here.fragments here.engine l.fn.report.path l.object l.node (take l.group-index l.group-items)) l.fn.report l.members l.report
