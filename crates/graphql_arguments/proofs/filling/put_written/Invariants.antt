use Rattle.std.proofs.Common.{◌≡◌, take}
use Rattle.graphql_written_out.specs.FinalVariables.{value_in}
use Rattle.graphql_arguments.specs.ArgumentValues.{with_values, written_values}
use Rattle.graphql_arguments.specs.GivenValues.{values_told}
use Rattle.graphql_arguments.proofs.filling.put_written.Given as goal

abbrev pub invariant-loop-argument : goal.invariant-loop-argument
invariant-loop-argument g l =
    values_told l.values.entries ≡ with_values (values_told l.initial.values.entries) (written_values (value_in l.variables) (take l.argument-index l.written))
