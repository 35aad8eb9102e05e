use Rattle.std.specs.Str.{chars}
use Rattle.graphql_schema.specs.Declarations.{declarations_of}
use Rattle.graphql_requests.specs.KeptTexts.{keeps}
use Rattle.graphql_schema.specs.Scalars.{Scalars}
use Rattle.graphql_requests.proofs.KeptTexts.{kept-valid, read-valid}
use Rattle.graphql_requests.proofs.prepared.read_request_with.Goals as goal

pub returns-then-has-clause-refused : goal.returns-then-has-clause-refused
returns-then-has-clause-refused g c =
    c.parse_request.ensures.refused (declarations_of c.args.root_node.now.schema) c.args.root_node.now.introspection_disabled

pub returns-clause-valid : goal.returns-clause-valid
returns-clause-valid g c =
    let v = g.S.ScalarValue in
    let s : Scalars g.row.S.Denot g.row.S-Check.Denot = record {
      reads = g.S.ParseScalarValue.reads;
      of_bool = v.of_bool;
      of_int = v.of_int;
      of_text = v.of_text;
      eq = g.S.PartialEq.eq;
      answer = v.answer;
      accepts = g.S.Check.Check.accepts;
    } in
    let root = c.args.root_node.now in
    let schema = declarations_of root.schema in
    λ text kept.
    kept-valid s schema root.introspection_disabled c.args.source.now text (keeps c.args.valid.now text)
    (read-valid s schema root.introspection_disabled (chars c.args.source.now) c.in_ok-document.document c.in_ok-document.ensures.read)
    (λ was. c.requires text was) (c.add.ensures text kept)
