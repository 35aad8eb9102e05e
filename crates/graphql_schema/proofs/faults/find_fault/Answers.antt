use Rattle.std.proofs.Common.{All, subst}
use Rattle.std.proofs.lemmas.List.{take_all, get_or_default}
use Rattle.graphql_schema.specs.Faults.{Roots, order, IsAbsent}
use Rattle.graphql_schema.proofs.FaultKinds.{of_each_kind, first_fault, one_more}
use Rattle.graphql_schema.proofs.faults.find_fault.Goals as goal

pub returns-in-Some : goal.returns-in-Some
returns-in-Some g c =
    let roots : Roots = record { query = c.args.query.now; mutation = c.args.mutation.now; subscription = c.args.subscription.now } in
    first_fault c.args.types.now roots c.kinds.kind-index _ c.error_of.result c.in_ok-name-2.name c.error_of.ensures c.in_ok-name.field-0 c.in-Some.name c.in_ok-name-2.ensures
    c.in_ok-name.ensures c.in-Some.is c.kinds-test.true (get_or_default order c.kinds.kind-index _ _ c.kinds-test.true) c.kinds.invariant

pub kinds-preserved : goal.kinds-preserved
kinds-preserved g c =
    let roots : Roots = record { query = c.args.query.now; mutation = c.args.mutation.now; subscription = c.args.subscription.now } in
    one_more c.args.types.now roots c.kinds.kind-index _ c.in_ok-name.field-0 c.in_ok-name.ensures c.in_default.is c.kinds-test.true
    (get_or_default order c.kinds.kind-index _ _ c.kinds-test.true) c.kinds.invariant

pub returns : goal.returns
returns g c =
    let roots : Roots = record { query = c.args.query.now; mutation = c.args.mutation.now; subscription = c.args.subscription.now } in
    of_each_kind (IsAbsent c.args.types.now roots) (subst (All (IsAbsent c.args.types.now roots)) (take_all c.kinds.kind-index order c.kinds-test.false) c.kinds.invariant)
