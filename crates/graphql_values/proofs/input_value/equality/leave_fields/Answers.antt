use Rattle.graphql_values.specs.Comparing.{lent}
use Rattle.graphql_values.proofs.ByNameLemmas.{leaves_of}
use Rattle.graphql_values.proofs.input_value.equality.leave_fields.Goals as goal

pub returns-then-have_same_names-clause-leaves : goal.returns-then-have_same_names-clause-leaves
returns-then-have_same_names-clause-leaves g c =
    leaves_of g.S.PartialEq.eq c.leave_in_order.result c.args.left.now c.args.right.now (lent c.in_ok-left.left) (lent c.in_ok-right.right) c.args.waiting.now c.leave_in_order.new.waiting c.in_ok-left.ensures c.in_ok-right.ensures c.leave_in_order.ensures.leaves

pub returns-else-have_same_names-clause-leaves : goal.returns-else-have_same_names-clause-leaves
returns-else-have_same_names-clause-leaves g c =
    leaves_of g.S.PartialEq.eq c.leave_by_name.result c.args.left.now c.args.right.now (lent c.in_ok-left.left) (lent c.in_ok-right.right) c.args.waiting.now c.leave_by_name.new.waiting c.in_ok-left.ensures c.in_ok-right.ensures c.leave_by_name.ensures.leaves
