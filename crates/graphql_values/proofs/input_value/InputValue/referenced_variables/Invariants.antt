use Rattle.std.proofs.Common.{◌≡◌, ◌++◌, length}
use Rattle.std.specs.List.{flat_map}
use Rattle.graphql_values.specs.Pending.{steps_ahead}
use Rattle.graphql_values.specs.Variables.{names_of_variables}
use Rattle.graphql_values.proofs.StepLemmas.{told_variables}
use Rattle.graphql_values.proofs.input_value.InputValue.referenced_variables.Given as goal

-- the names so far, and then those that the walk has yet to tell
abbrev pub invariant-steps : goal.invariant-steps
invariant-steps g l = l.found ++ flat_map told_variables (steps_ahead l.walk) ≡ names_of_variables l.self

abbrev pub decreases-steps : goal.decreases-steps
decreases-steps g l = length (steps_ahead l.walk)
