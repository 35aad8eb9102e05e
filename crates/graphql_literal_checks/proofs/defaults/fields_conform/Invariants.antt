use Rattle.graphql_schema.proofs.MeantScalars.{scalars_of}
use Rattle.std.proofs.Common.{take}
use Rattle.std.specs.List.{All}
use Rattle.graphql_literal_checks.specs.Defaults.{FieldConforms}
use Rattle.graphql_literal_checks.proofs.defaults.fields_conform.Given as goal

-- those passed so far conform
abbrev pub invariant-fields : goal.invariant-fields
invariant-fields g l =
    let scalars = scalars_of g.S.ParseScalarValue g.S.ScalarValue g.S.PartialEq g.S.Check.Check in
    All (FieldConforms scalars l.schema.types) (take l.field-index l.fields)
