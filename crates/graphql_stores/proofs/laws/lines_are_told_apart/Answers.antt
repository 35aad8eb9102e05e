use Rattle.graphql_stores.proofs.ToldApart.{told-apart}
use Rattle.graphql_stores.proofs.laws.lines_are_told_apart.Goals as goal

pub returns : goal.returns
returns g c = λ service store line.
    told-apart _ _ store line c.executable_requests_are_not_refused.ensures c.plain_requests_are_not_refused.ensures
    c.plain_texts_are_one.ensures
