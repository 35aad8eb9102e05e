use Rattle.std.proofs.Common.{subst, sym}
use Rattle.graphql_grammar.specs.Input.{Input}
use Rattle.graphql_grammar.specs.Cursor.{IsStart}
use Rattle.graphql_grammar.proofs.Cursors.{starts_recorded}
use Rattle.graphql_language.proofs.TextLaws.{told_document, told_only, told_faulty}
use Rattle.graphql_language.proofs.source.parse_document_records.Goals as goal

pub returns-clause-document : goal.returns-clause-document
returns-clause-document g c = λ text recorded.
    let P : Input → Type 0 = IsStart text in
    let start = subst P (sym c.from_records-cursor.ensures) (starts_recorded text c.args.records.now recorded) in
    told_document {S = g.row.S.Denot} g.S.ParseScalarValue.reads g.S.ScalarValue.of_bool text _ _ c.document.result start c.document.ensures.reads

pub returns-clause-only : goal.returns-clause-only
returns-clause-only g c = λ text recorded.
    let P : Input → Type 0 = IsStart text in
    let start = subst P (sym c.from_records-cursor.ensures) (starts_recorded text c.args.records.now recorded) in
    told_only {S = g.row.S.Denot} g.S.ParseScalarValue.reads g.S.ScalarValue.of_bool text _ _ c.document.result start c.document.ensures.reads

pub returns-clause-fault : goal.returns-clause-fault
returns-clause-fault g c = λ text recorded.
    let P : Input → Type 0 = IsStart text in
    let start = subst P (sym c.from_records-cursor.ensures) (starts_recorded text c.args.records.now recorded) in
    told_faulty {S = g.row.S.Denot} g.S.ParseScalarValue.reads g.S.ScalarValue.of_bool text _ _ c.document.result start c.document.ensures.reads
