use Rattle.graphql_schema.proofs.MeantScalars.{scalars_of}
use Rattle.std.proofs.Common.{take}
use Rattle.std.specs.HashMap.{get_by_text}
use Rattle.graphql_rule_errors.specs.Places.{places}
use Rattle.graphql_variable_checks.specs.Accepted.{Refusals}
use Rattle.graphql_variable_checks.proofs.validate.errors_of_definitions.Given as goal

-- the errors of the definitions so far
abbrev pub invariant-definitions : goal.invariant-definitions
invariant-definitions g l =
    let scalars = scalars_of g.S.ParseScalarValue g.S.ScalarValue g.S.PartialEq g.S.Check.Check in
    Refusals scalars l.schema.types (get_by_text l.variables) (take l.variable-index l.definitions) (places l.errors)
