use Rattle.graphql_execution_walk.proofs.steps.give.Goals as goal

pub returns-in-Object-clause-fine : goal.returns-in-Object-clause-fine
returns-in-Object-clause-fine g c = λ here. rw c.in-Object.is (c.give_object.ensures.fine here)

pub returns-in-List-clause-gives : goal.returns-in-List-clause-gives
returns-in-List-clause-gives g c = rw c.in-List.is c.give_list.ensures.gives

pub returns-in-List-clause-turns : goal.returns-in-List-clause-turns
returns-in-List-clause-turns g c = rw c.in-List.is c.give_list.ensures.turns

pub returns-in-List-clause-fine : goal.returns-in-List-clause-fine
returns-in-List-clause-fine g c = λ here. rw c.in-List.is (c.give_list.ensures.fine here)
