use Rattle.graphql_plain_requests.proofs.PlainTextStays.{plain-text-stays}
use Rattle.graphql_plain_requests.proofs.laws.plain_text_stays.Goals as goal

pub returns : goal.returns
returns g c =
    plain-text-stays g.S.ParseScalarValue.reads g.S.ScalarValue.of_bool g.S.ScalarValue.answer
    g.met.S.ScalarValue.bool_answers
