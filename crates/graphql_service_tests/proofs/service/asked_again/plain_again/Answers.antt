use Rattle.std.proofs.Common.{option_map, string_bytes, subst, sym}
use Rattle.std.specs.HashMap.{get_by_text}
use Rattle.std.specs.Str.{IsUtf8, chars}
use Rattle.graphql_executor.specs.Requests.{Scalars}
use Rattle.graphql_service.specs.PlainRequests.{HasNoPlainText, IsPlainTextWithin, asked_at}
use Rattle.graphql_service_tests.proofs.AskedAgain.{the-same}
use Rattle.graphql_service_tests.proofs.service.asked_again.plain_again.Goals as goal

pub returns : goal.returns
returns g c = λ takes.
    let s : Scalars g.row.S.Denot g.row.S-Check.Denot = record {
      reads = g.S.ParseScalarValue.reads;
      of_bool = g.S.ScalarValue.of_bool;
      of_int = g.S.ScalarValue.of_int;
      of_text = g.S.ScalarValue.of_text;
      eq = g.S.PartialEq.eq;
      answer = g.S.ScalarValue.answer;
      accepts = g.S.Check.Check.accepts;
    } in
    let root = c.args.root_node.now in
    let name = option_map (λ name. string_bytes name) c.args.operation_name in
    let given = get_by_text c.args.variables in
    let bytes = string_bytes c.in_ok-text.text in
    let asked = asked_at root (chars bytes) name given in
    let has =
    c.plain_again_is_the_same.ensures takes c.args.source.now name given c.args.limit bytes c.utf8.source
    (subst (λ source. IsPlainTextWithin s (asked_at root (chars source) name given) c.args.limit bytes)
    c.in_ok-query.ensures.ok c.in_ok-text.ensures.plain) in
    the-same (λ text. string_bytes text) bytes c.plain_request-again.result
    (IsPlainTextWithin s asked c.args.limit) (HasNoPlainText s asked _ c.args.limit)
    c.plain_request-again.ensures.plain c.plain_request-again.ensures.refused
    (λ other is. has.only other is.plain) (λ why due. has.not_refused _ why due)
