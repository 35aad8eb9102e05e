use Rattle.std.proofs.Common.{inl, refl, true}
use Rattle.graphql_scalars.specs.DefaultScalar as default
use Rattle.graphql_scalars.specs.declared.default_scalar.DefaultScalarValue.{DefaultScalarValue}
use Rattle.graphql_scalars.specs.declared.default_scalar.DefaultScalarValue.TheVariants as scalar
use Rattle.graphql_grammar.specs.Faults.{BadScalar, GoodScalar}
use Rattle.graphql_schema_rows.specs.Definitions.{Heads}
use Rattle.graphql_schema_rows.specs.ReadDefinitions as spec
use Rattle.graphql_schema_rows.proofs.DefinitionLaws.{law_head}
use Rattle.graphql_schema_rows.proofs.DefinitionReadings.{twins_head}
use Rattle.graphql_schema_rows.proofs.WholeTexts.{told_fault, told_text}
use Rattle.graphql_schema_rows.proofs.texts.head_of_text.Goals as goal

pub returns-in-Ok-clause-head : goal.returns-in-Ok-clause-head
returns-in-Ok-clause-head c =
    told_text {S = DefaultScalarValue} (Heads DefaultScalarValue) (λ r. spec.head) (λ r. law_head (BadScalar r) (GoodScalar r)) refl (λ q r. twins_head q r) (scalar.Boolean true)
    default.reads _ _ _ c.in-Ok.ensures.start c.whole_head.result c.whole_head.ensures

pub returns-in-Ok-clause-fault : goal.returns-in-Ok-clause-fault
returns-in-Ok-clause-fault c =
    told_fault {S = DefaultScalarValue} (Heads DefaultScalarValue) (λ r. spec.head) (λ r. law_head (BadScalar r) (GoodScalar r)) refl (λ q r. twins_head q r) (scalar.Boolean true)
    default.reads _ _ _ c.in-Ok.ensures.start c.whole_head.result c.whole_head.ensures

pub returns-in-Err-clause-fault : goal.returns-in-Err-clause-fault
returns-in-Err-clause-fault c = λ told. inl (c.in-Err.ensures.fault told)
