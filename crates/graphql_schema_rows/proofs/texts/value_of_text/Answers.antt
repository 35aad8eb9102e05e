use Rattle.std.proofs.Common.{inl, refl, true}
use Rattle.graphql_schema_rows.specs.Definitions.{Values}
use Rattle.graphql_schema_rows.specs.ReadDefinitions as spec
use Rattle.graphql_schema_rows.proofs.DefinitionLaws.{law_enum_value}
use Rattle.graphql_schema_rows.proofs.DefinitionReadings.{twins_enum_value}
use Rattle.graphql_schema_rows.proofs.WholeTexts.{told_fault, told_text}
use Rattle.graphql_schema_rows.proofs.texts.value_of_text.Goals as goal

pub returns-in-Ok-clause-value : goal.returns-in-Ok-clause-value
returns-in-Ok-clause-value g c =
    let of_bool = g.S.ScalarValue.of_bool in
    told_text {S = g.row.S.Denot} (Values g.row.S.Denot of_bool) (λ r. spec.enum_value r of_bool) (λ r. law_enum_value r of_bool) refl (λ q r. twins_enum_value q r of_bool) (of_bool true)
    g.S.ParseScalarValue.reads _ _ _ c.in-Ok.ensures.start c.whole_enum_value.result c.whole_enum_value.ensures

pub returns-in-Ok-clause-fault : goal.returns-in-Ok-clause-fault
returns-in-Ok-clause-fault g c =
    let of_bool = g.S.ScalarValue.of_bool in
    told_fault {S = g.row.S.Denot} (Values g.row.S.Denot of_bool) (λ r. spec.enum_value r of_bool) (λ r. law_enum_value r of_bool) refl (λ q r. twins_enum_value q r of_bool) (of_bool true)
    g.S.ParseScalarValue.reads _ _ _ c.in-Ok.ensures.start c.whole_enum_value.result c.whole_enum_value.ensures

pub returns-in-Err-clause-fault : goal.returns-in-Err-clause-fault
returns-in-Err-clause-fault g c = λ told. inl (c.in-Err.ensures.fault told)
