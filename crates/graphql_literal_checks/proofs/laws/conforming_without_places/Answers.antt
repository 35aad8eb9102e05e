use Rattle.graphql_schema.proofs.MeantScalars.{scalars_of}
use Rattle.graphql_literal_checks.proofs.UnlocatedLemmas.{conforms_without_places}
use Rattle.graphql_literal_checks.proofs.laws.conforming_without_places.Goals as goal

pub returns : goal.returns
returns g c =
    conforms_without_places (scalars_of g.S.ParseScalarValue g.S.ScalarValue g.S.PartialEq g.S.Check.Check) g.met.S.Eq.laws g.met.S.Check.Check.respects_same
