use Rattle.std.specs.Str.{chars}
use Rattle.graphql_language.specs.Texts.{IsRefused}
use Rattle.graphql_requests.specs.Refusals.{IsUnread}
use Rattle.graphql_requests.proofs.FaultLemmas.{fault-told}
use Rattle.graphql_requests.proofs.prepared.parse_request.Goals as goal

pub returns-in-Err-clause-refused : goal.returns-in-Err-clause-refused
returns-in-Err-clause-refused g c = λ schema introspection_disabled.
    let text = chars c.args.source.now in
    let fault = c.in-Err.fault in
    rw c.from.ensures
    (fault-told (IsRefused g.row.S.Denot g.S.ParseScalarValue.reads g.S.ScalarValue.of_bool text)
    (IsUnread _ schema introspection_disabled text)
    (λ f h. h) tt fault.item fault c.in-Err.ensures.fault)
