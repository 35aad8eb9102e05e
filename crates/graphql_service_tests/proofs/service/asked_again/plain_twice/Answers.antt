use Rattle.std.proofs.Common.{string_bytes}
use Rattle.std.specs.declared.cmp.Ordering.{Ordering}
use Rattle.graphql_executor.specs.Requests.{Scalars}
use Rattle.graphql_service.specs.PlainRequests.{HasNoPlainText, IsPlainTextWithin, asked_of}
use Rattle.graphql_service_tests.proofs.AskedAgain.{the-same}
use Rattle.graphql_service_tests.proofs.service.asked_again.plain_twice.Goals as goal

pub returns : goal.returns
returns g c =
    let s : Scalars g.row.S.Denot g.row.S-Check.Denot = record {
      reads = g.S.ParseScalarValue.reads;
      of_bool = g.S.ScalarValue.of_bool;
      of_int = g.S.ScalarValue.of_int;
      of_text = g.S.ScalarValue.of_text;
      eq = g.S.PartialEq.eq;
      answer = g.S.ScalarValue.answer;
      accepts = g.S.Check.Check.accepts;
    } in
    let asked = asked_of c.args.root_node.now c.args.request.now in
    the-same (λ text. string_bytes text) (string_bytes c.in_ok-text.text) c.plain_request-again.result
    (IsPlainTextWithin s asked c.args.limit) (HasNoPlainText s asked _ c.args.limit)
    c.plain_request-again.ensures.plain c.plain_request-again.ensures.refused
    (λ other is. c.plain_texts_are_one.ensures asked other _ is.plain c.in_ok-text.ensures.plain.plain)
    (λ why due. c.plain_requests_are_not_refused.ensures asked _ _ _ why c.in_ok-text.ensures.plain due)
