use Rattle.std.proofs.Common.{◌≡◌, drop}
use Rattle.graphql_arguments.specs.GivenValues.{arguments_told}
use Rattle.graphql_output_values.specs.Objects.{with_fields}
use Rattle.graphql_records.specs.Settings.{Fields, set_all}
use Rattle.graphql_records.proofs.setting.values_of.Given as goal

-- to any fields the values so far, set in turn, and then the arguments that are left do what all arguments do
abbrev pub invariant-arguments : goal.invariant-arguments
invariant-arguments l = (fields : Fields)
    → set_all l.types l.object (arguments_told l.arguments) fields ≡ set_all l.types l.object (drop l.place (arguments_told l.arguments)) (with_fields fields l.values)
