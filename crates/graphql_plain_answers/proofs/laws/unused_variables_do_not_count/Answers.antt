use Rattle.graphql_plain_answers.proofs.ServedAlike.{plain-left-alike, trees-alike}
use Rattle.graphql_plain_answers.proofs.laws.unused_variables_do_not_count.Goals as goal

pub returns : goal.returns
returns g c =
    let scalar = g.S.ScalarValue in
    let fits = c.stand_in_leaves_out.ensures in
    λ schema type_of resolves changes lawful values others set other same plain agree.
    trees-alike scalar.of_text scalar.of_bool scalar.answer schema _ g.met.S.Eq.laws
    type_of resolves changes lawful values others set other same agree
    (plain-left-alike _ values others _ (fits values) (fits others) set plain)
