use Rattle.std.proofs.Common.{option_map, rules}
use Rattle.std.specs.HashMap.{get_by_text}
use Rattle.std.specs.Str.{chars}
use Rattle.graphql_requests.specs.Asked.{Asking}
use Rattle.graphql_schema.specs.Scalars.{Scalars}
use Rattle.graphql_plain_requests.specs.PlainRequests.{asked_at}
use Rattle.graphql_plain_requests.proofs.Refused.{lexical-refuses}
use Rattle.graphql_plain_requests.proofs.request.plain_of_text.Goals as goal

pub returns-in-Err-clause-refused : goal.returns-in-Err-clause-refused
returns-in-Err-clause-refused g c =
    let s : Scalars g.row.S.Denot g.row.S-Check.Denot = record {
      reads = g.S.ParseScalarValue.reads;
      of_bool = g.S.ScalarValue.of_bool;
      of_int = g.S.ScalarValue.of_int;
      of_text = g.S.ScalarValue.of_text;
      eq = g.S.PartialEq.eq;
      answer = g.S.ScalarValue.answer;
      accepts = g.S.Check.Check.accepts;
    } in
    let a : Asking g.row.S.Denot g.row.S-Check.Denot =
    asked_at c.args.root_node.now (chars c.args.source.now) (option_map (λ name. name.now) c.args.operation_name) (get_by_text c.args.variables.now) in
    rw (c.from-in-Err.ensures, c.from.ensures)
    (lexical-refuses s a c.args.limit _ c.in-Err.fault c.in-Err.ensures.fault (search rules))
