use Rattle.graphql_schema.proofs.MeantScalars.{scalars_of}
use Rattle.std.proofs.Common.{take}
use Rattle.std.specs.List.{All}
use Rattle.graphql_literal_checks.specs.Defaults.{NamedConforms}
use Rattle.graphql_literal_checks.proofs.defaults.first_with_bad_default.Given as goal

-- the types of the names passed so far have no other
abbrev pub invariant-names : goal.invariant-names
invariant-names g l =
    let scalars = scalars_of g.S.ParseScalarValue g.S.ScalarValue g.S.PartialEq g.S.Check.Check in
    All (λ name. NamedConforms scalars l.schema.types name.now) (take l.name-index l.names)
