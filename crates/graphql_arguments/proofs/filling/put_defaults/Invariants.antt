use Rattle.std.proofs.Common.{◌≡◌, take}
use Rattle.graphql_arguments.specs.ArgumentValues.{declared_defaults, with_values}
use Rattle.graphql_arguments.specs.GivenValues.{values_told}
use Rattle.graphql_arguments.proofs.filling.put_defaults.Given as goal

abbrev pub invariant-loop-argument : goal.invariant-loop-argument
invariant-loop-argument g l =
    values_told l.values.entries ≡ with_values (values_told l.initial.values.entries) (declared_defaults (take l.argument-index l.declared))
