use Rattle.std.proofs.Common.{inl, refl, true}
use Rattle.graphql_schema_rows.specs.Definitions.{Fields}
use Rattle.graphql_schema_rows.specs.ReadDefinitions as spec
use Rattle.graphql_schema_rows.proofs.DefinitionLaws.{law_field}
use Rattle.graphql_schema_rows.proofs.DefinitionReadings.{twins_field}
use Rattle.graphql_schema_rows.proofs.WholeTexts.{told_fault, told_text}
use Rattle.graphql_schema_rows.proofs.texts.field_of_text.Goals as goal

pub returns-in-Ok-clause-field : goal.returns-in-Ok-clause-field
returns-in-Ok-clause-field g c =
    let of_bool = g.S.ScalarValue.of_bool in
    told_text {S = g.row.S.Denot} (Fields g.row.S.Denot of_bool) (λ r. spec.field r of_bool) (λ r. law_field r of_bool) refl (λ q r. twins_field q r of_bool) (of_bool true)
    g.S.ParseScalarValue.reads _ _ _ c.in-Ok.ensures.start c.whole_field.result c.whole_field.ensures

pub returns-in-Ok-clause-fault : goal.returns-in-Ok-clause-fault
returns-in-Ok-clause-fault g c =
    let of_bool = g.S.ScalarValue.of_bool in
    told_fault {S = g.row.S.Denot} (Fields g.row.S.Denot of_bool) (λ r. spec.field r of_bool) (λ r. law_field r of_bool) refl (λ q r. twins_field q r of_bool) (of_bool true)
    g.S.ParseScalarValue.reads _ _ _ c.in-Ok.ensures.start c.whole_field.result c.whole_field.ensures

pub returns-in-Err-clause-fault : goal.returns-in-Err-clause-fault
returns-in-Err-clause-fault g c = λ told. inl (c.in-Err.ensures.fault told)
