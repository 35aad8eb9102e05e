use Rattle.std.proofs.Common.{refl}
use Rattle.graphql_plain_answers.proofs.ServedAlike.{left-itself, trees-alike}
use Rattle.graphql_plain_answers.proofs.laws.places_do_not_count.Goals as goal

pub returns : goal.returns
returns g c =
    let scalar = g.S.ScalarValue in
    λ schema type_of resolves changes lawful values set other same.
    trees-alike scalar.of_text scalar.of_bool scalar.answer schema _ g.met.S.Eq.laws
    type_of resolves changes lawful values values set other same
    (λ name i. refl) (left-itself _ values set)
