use Rattle.std.proofs.Common.{true, false, ap, ◌∙◌, Err}
use Rattle.graphql_grammar.specs.declared.kind.Kind.TheVariants as k
use Rattle.graphql_grammar.proofs.Parts.{exits_with}
use Rattle.graphql_grammar.proofs.KindTests.{asked_kind}
use Rattle.graphql_language.proofs.DocumentParts.{document_refused, document_read, document_goes_on}
use Rattle.graphql_language.proofs.parse.document.document.Goals as goal

pub returns-in_err-found-clause-reads : goal.returns-in_err-found-clause-reads
returns-in_err-found-clause-reads g c =
    exits_with c.from_residual.result c.definitions.new.cursor c.from_residual.ensures.1 c.in_err-found.ensures.reads (document_refused g.S.ParseScalarValue.reads g.S.ScalarValue.of_bool c.args.cursor.now)

pub returns-then-eq-clause-reads : goal.returns-then-eq-clause-reads
returns-then-eq-clause-reads g c =
    let seen = asked_kind k.EndOfFile c.definitions.new.cursor c.kind.result true c.kind.ensures c.if-eq.ensures in
    document_read g.S.ParseScalarValue.reads g.S.ScalarValue.of_bool c.args.cursor.now c.in_ok-found.ensures.reads seen

pub returns-clause-reads : goal.returns-clause-reads
returns-clause-reads g c =
    let seen = asked_kind k.EndOfFile c.definitions.new.cursor c.kind.result false c.kind.ensures c.if-eq.ensures in
    λ told. document_goes_on g.S.ParseScalarValue.reads g.S.ScalarValue.of_bool c.args.cursor.now c.in_ok-found.ensures.reads seen ∙ ap Err (c.refuse.ensures told)
