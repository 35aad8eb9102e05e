use Rattle.graphql_joins.proofs.JoinedDocuments.{requests-are-sound}
use Rattle.graphql_joins.proofs.laws.requests_are_sound.Goals as goal

pub returns : goal.returns
returns g c =
    let scalar = g.S.ScalarValue in
    requests-are-sound scalar.of_text scalar.of_bool scalar.answer _ g.met.S.Eq.laws _ _
