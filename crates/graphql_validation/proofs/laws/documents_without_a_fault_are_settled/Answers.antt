use Rattle.graphql_schema.specs.Declarations.{declarations_of}
use Rattle.graphql_rules_document.proofs.KnownFieldTypes.{field-types-are-known}
use Rattle.graphql_rules_document.proofs.SettledFragments.{ending-fragments-are-settled}
use Rattle.graphql_validation.proofs.AllRulesLemmas.{settled-where-well-formed}
use Rattle.graphql_validation.proofs.WellFormedLemmas.{well_formed}
use Rattle.graphql_validation.proofs.laws.documents_without_a_fault_are_settled.Goals as goal

pub returns : goal.returns
returns g c = λ document fault.
    let schema = declarations_of c.args.schema.now in
    settled-where-well-formed (record { schema = schema; document = document }) (ending-fragments-are-settled schema (field-types-are-known schema c.args.schema.now.faultless))
    (well_formed _ (record { schema = schema; document = document }) fault)
