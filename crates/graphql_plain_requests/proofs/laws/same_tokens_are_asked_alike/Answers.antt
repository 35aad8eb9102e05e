use Rattle.graphql_schema.specs.Declarations.{declarations_of}
use Rattle.graphql_schema.specs.Scalars.{Scalars}
use Rattle.graphql_plain_requests.proofs.Alike.{same-tokens-are-asked-alike}
use Rattle.graphql_plain_requests.proofs.laws.same_tokens_are_asked_alike.Goals as goal

pub returns : goal.returns
returns g c =
    let s : Scalars g.row.S.Denot g.row.S-Check.Denot = record {
      reads = g.S.ParseScalarValue.reads;
      of_bool = g.S.ScalarValue.of_bool;
      of_int = g.S.ScalarValue.of_int;
      of_text = g.S.ScalarValue.of_text;
      eq = g.S.PartialEq.eq;
      answer = g.S.ScalarValue.answer;
      accepts = g.S.Check.Check.accepts;
    } in
    same-tokens-are-asked-alike s c.args.root_node.now
    (c.valid_alike.ensures (declarations_of c.args.root_node.now.schema))
