use Rattle.std.proofs.Common.{subst}
use Rattle.graphql_schema.specs.Declarations.{declarations_of}
use Rattle.graphql_schema.specs.declared.schema.SchemaType.{SchemaType}
use Rattle.graphql_plain_validity.specs.Laws.{PlainTextsAreValid}
use Rattle.graphql_schema.specs.Scalars.{Scalars}
use Rattle.graphql_plain_requests.proofs.AcceptedTexts.{plain-texts-are-accepted}
use Rattle.graphql_plain_requests.proofs.laws.plain_texts_are_accepted.Goals as goal

pub returns : goal.returns
returns g c =
    let s : Scalars g.row.S.Denot g.row.S-Check.Denot = record {
      reads = g.S.ParseScalarValue.reads;
      of_bool = g.S.ScalarValue.of_bool;
      of_int = g.S.ScalarValue.of_int;
      of_text = g.S.ScalarValue.of_text;
      eq = g.S.PartialEq.eq;
      answer = g.S.ScalarValue.answer;
      accepts = g.S.Check.Check.accepts;
    } in
    plain-texts-are-accepted s c.args.root_node.now
    (subst (λ (schema : SchemaType g.row.S.Denot g.row.S-Check.Denot). PlainTextsAreValid s (declarations_of schema))
    c.schema.ensures c.plain_texts_are_valid.ensures)
    c.plain_text_is_document.ensures
