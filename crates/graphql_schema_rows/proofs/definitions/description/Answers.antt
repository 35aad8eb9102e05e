use Rattle.std.proofs.Common.{Ok, Some, ap, sym, ◌∙◌}
use Rattle.graphql_text.specs.declared.token.Token.{Token}
use Rattle.graphql_grammar.specs.declared.kind.Kind.TheVariants as k
use Rattle.graphql_grammar.specs.Input.{At, Input, next}
use Rattle.graphql_grammar.specs.Kinds.{only}
use Rattle.graphql_grammar.proofs.KindTests.{other_kind, this_kind}
use Rattle.graphql_grammar.proofs.Parts.{optional_none, optional_read}
use Rattle.graphql_schema_rows.specs.ReadDefinitions.{literal}
use Rattle.graphql_schema_rows.proofs.Literals.{literal_read}
use Rattle.graphql_schema_rows.proofs.definitions.description.Goals as goal

pub returns-then-ne-clause-reads : goal.returns-then-ne-clause-reads
returns-then-ne-clause-reads c =
    let i = c.args.cursor.now in
    optional_none (only k.Scalar) literal i (other_kind k.Scalar i c.kind.result c.kind.ensures c.if-ne.ensures)

pub returns-clause-reads : goal.returns-clause-reads
returns-clause-reads c =
    let i = c.args.cursor.now in
    let seen = this_kind k.Scalar i c.kind.result c.kind.ensures c.if-ne.ensures in
    optional_read (only k.Scalar) literal seen (literal_read i seen)
    ∙ ap (λ (x : At Token). Ok (Some x, next i)) (sym c.peek-literal.ensures)
    ∙ ap (λ (j : Input). Ok (Some c.peek-literal.result, j)) (sym c.advance.ensures.next)
