use Rattle.graphql_plain_requests.proofs.RequestsStay.{plain-requests-stay}
use Rattle.graphql_plain_requests.proofs.laws.plain_requests_stay.Goals as goal

pub returns : goal.returns
returns g c =
    plain-requests-stay _ c.args.root_node.now c.plain_texts_are_accepted.ensures
    c.plain_texts_are_one.ensures c.plain_requests_are_not_refused.ensures
    c.plain_text_stays.ensures
