use Rattle.graphql_schema.proofs.MeantScalars.{scalars_of}
use Rattle.std.proofs.Common.{None, take}
use Rattle.std.specs.List.{All}
use Rattle.graphql_schema_files.specs.UnfitDefaults.{IsUnfitArgument}
use Rattle.graphql_schema_files.proofs.unfit.argument_among.Given as goal

-- in those passed so far each default conforms
abbrev pub invariant-arguments : goal.invariant-arguments
invariant-arguments g l =
    let scalars = scalars_of g.S.ParseScalarValue g.S.ScalarValue g.S.PartialEq g.S.Check.Check in
    All (λ x. IsUnfitArgument scalars l.schema.types x None) (take l.argument-index l.arguments)
