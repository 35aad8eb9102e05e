use Rattle.graphql_schema.proofs.MeantScalars.{scalars_of}
use Rattle.graphql_schema.specs.Declarations.{declarations_of}
use Rattle.graphql_rules_document.proofs.KnownFieldTypes.{field-types-are-known}
use Rattle.graphql_plain_validity.proofs.PlainValidity.{plain-documents-stay-valid}
use Rattle.graphql_plain_validity.proofs.laws.plain_documents_stay_valid.Goals as goal

pub returns : goal.returns
returns g c =
    let schema = declarations_of c.args.schema.now in
    plain-documents-stay-valid (scalars_of g.S.ParseScalarValue g.S.ScalarValue g.S.PartialEq g.S.Check.Check) g.met.S.Eq.laws g.met.S.ScalarValue.bool_answers g.met.S.Check.Check.respects_same schema
    (field-types-are-known schema c.args.schema.now.faultless)
