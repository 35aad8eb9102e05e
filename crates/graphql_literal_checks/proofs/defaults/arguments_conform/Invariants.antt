use Rattle.graphql_schema.proofs.MeantScalars.{scalars_of}
use Rattle.std.proofs.Common.{take}
use Rattle.std.specs.List.{All}
use Rattle.graphql_literal_checks.specs.Defaults.{ArgumentConforms}
use Rattle.graphql_literal_checks.proofs.defaults.arguments_conform.Given as goal

-- those passed so far conform
abbrev pub invariant-arguments : goal.invariant-arguments
invariant-arguments g l =
    let scalars = scalars_of g.S.ParseScalarValue g.S.ScalarValue g.S.PartialEq g.S.Check.Check in
    All (ArgumentConforms scalars l.schema.types) (take l.argument-index l.arguments)
