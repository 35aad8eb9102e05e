use Rattle.graphql_collect.proofs.collecting.bring.Goals as goal

pub returns-in-Field-clause-brings : goal.returns-in-Field-clause-brings
returns-in-Field-clause-brings g c = rw c.in-Field.is (c.bring_field.ensures.brings c.args.object.now c.args.visited.now.keys)

pub returns-in-Field-clause-sized : goal.returns-in-Field-clause-sized
returns-in-Field-clause-sized g c = rw c.in-Field.is (c.bring_field.ensures.sized c.args.visited.now.keys)

pub returns-in-InlineFragment-clause-brings : goal.returns-in-InlineFragment-clause-brings
returns-in-InlineFragment-clause-brings g c = rw c.in-InlineFragment.is (c.bring_inline.ensures.brings c.args.visited.now.keys)

pub returns-in-InlineFragment-clause-sized : goal.returns-in-InlineFragment-clause-sized
returns-in-InlineFragment-clause-sized g c = rw c.in-InlineFragment.is (c.bring_inline.ensures.sized c.args.visited.now.keys)
