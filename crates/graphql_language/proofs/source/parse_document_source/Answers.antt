use Rattle.std.proofs.Common.{inl}
use Rattle.graphql_language.proofs.TextLaws.{told_document, told_only, told_fault}
use Rattle.graphql_language.proofs.source.parse_document_source.Goals as goal

pub returns-in-Ok-clause-document : goal.returns-in-Ok-clause-document
returns-in-Ok-clause-document g c = told_document {S = g.row.S.Denot} g.S.ParseScalarValue.reads g.S.ScalarValue.of_bool _ _ _ c.document.result c.in-Ok.ensures.start c.document.ensures.reads

pub returns-in-Ok-clause-only : goal.returns-in-Ok-clause-only
returns-in-Ok-clause-only g c = told_only {S = g.row.S.Denot} g.S.ParseScalarValue.reads g.S.ScalarValue.of_bool _ _ _ c.document.result c.in-Ok.ensures.start c.document.ensures.reads

pub returns-in-Ok-clause-fault : goal.returns-in-Ok-clause-fault
returns-in-Ok-clause-fault g c = told_fault {S = g.row.S.Denot} g.S.ParseScalarValue.reads g.S.ScalarValue.of_bool _ _ _ c.document.result c.in-Ok.ensures.start c.document.ensures.reads

pub returns-in-Err-clause-fault : goal.returns-in-Err-clause-fault
returns-in-Err-clause-fault g c = λ told. inl (c.in-Err.ensures.fault told)
