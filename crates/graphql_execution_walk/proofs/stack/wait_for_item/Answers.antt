use Rattle.graphql_execution_walk.proofs.stack.wait_for_item.Goals as goal

pub returns : goal.returns
returns g c = (c.in_ok-known.known, c.in_ok-known.ensures, c.in_ok-wait.ensures)
