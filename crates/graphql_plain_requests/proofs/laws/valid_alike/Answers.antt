use Rattle.graphql_schema.proofs.MeantScalars.{scalars_of}
use Rattle.graphql_plain_requests.proofs.ValidAlike.{valid-alike}
use Rattle.graphql_plain_requests.proofs.laws.valid_alike.Goals as goal

pub returns : goal.returns
returns g c =
    λ schema. valid-alike (scalars_of g.S.ParseScalarValue g.S.ScalarValue g.S.PartialEq g.S.Check.Check)
    g.met.S.Eq.laws g.met.S.Check.Check.respects_same schema
