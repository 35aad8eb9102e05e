use Rattle.std.proofs.Common.{inl, refl, true}
use Rattle.graphql_schema_rows.specs.Definitions.{Arguments}
use Rattle.graphql_schema_rows.specs.ReadDefinitions as spec
use Rattle.graphql_schema_rows.proofs.DefinitionLaws.{law_argument}
use Rattle.graphql_schema_rows.proofs.DefinitionReadings.{twins_argument}
use Rattle.graphql_schema_rows.proofs.WholeTexts.{told_fault, told_text}
use Rattle.graphql_schema_rows.proofs.texts.argument_of_text.Goals as goal

pub returns-in-Ok-clause-argument : goal.returns-in-Ok-clause-argument
returns-in-Ok-clause-argument g c =
    let of_bool = g.S.ScalarValue.of_bool in
    told_text {S = g.row.S.Denot} (Arguments g.row.S.Denot of_bool) (λ r. spec.argument r of_bool) (λ r. law_argument r of_bool) refl (λ q r. twins_argument q r of_bool) (of_bool true)
    g.S.ParseScalarValue.reads _ _ _ c.in-Ok.ensures.start c.whole_argument.result c.whole_argument.ensures

pub returns-in-Ok-clause-fault : goal.returns-in-Ok-clause-fault
returns-in-Ok-clause-fault g c =
    let of_bool = g.S.ScalarValue.of_bool in
    told_fault {S = g.row.S.Denot} (Arguments g.row.S.Denot of_bool) (λ r. spec.argument r of_bool) (λ r. law_argument r of_bool) refl (λ q r. twins_argument q r of_bool) (of_bool true)
    g.S.ParseScalarValue.reads _ _ _ c.in-Ok.ensures.start c.whole_argument.result c.whole_argument.ensures

pub returns-in-Err-clause-fault : goal.returns-in-Err-clause-fault
returns-in-Err-clause-fault g c = λ told. inl (c.in-Err.ensures.fault told)
