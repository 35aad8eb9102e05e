use Rattle.graphql_schema.proofs.MeantScalars.{scalars_of}
use Rattle.std.proofs.Common.{None, take}
use Rattle.std.specs.List.{All}
use Rattle.graphql_schema_files.specs.UnfitDefaults.{IsUnfitType}
use Rattle.graphql_schema_files.proofs.unfit.unfit_default.Given as goal

-- in those passed so far each default conforms
abbrev pub invariant-drafts : goal.invariant-drafts
invariant-drafts g l =
    let scalars = scalars_of g.S.ParseScalarValue g.S.ScalarValue g.S.PartialEq g.S.Check.Check in
    All (λ x. IsUnfitType scalars l.schema.types x None) (take l.draft-index l.drafts)
