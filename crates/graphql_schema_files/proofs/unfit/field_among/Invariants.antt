use Rattle.graphql_schema.proofs.MeantScalars.{scalars_of}
use Rattle.std.proofs.Common.{None, take}
use Rattle.std.specs.List.{All}
use Rattle.graphql_schema_files.specs.UnfitDefaults.{IsUnfitField}
use Rattle.graphql_schema_files.proofs.unfit.field_among.Given as goal

-- in those passed so far each default conforms
abbrev pub invariant-fields : goal.invariant-fields
invariant-fields g l =
    let scalars = scalars_of g.S.ParseScalarValue g.S.ScalarValue g.S.PartialEq g.S.Check.Check in
    All (λ x. IsUnfitField scalars l.schema.types x None) (take l.field-index l.fields)
