use Rattle.graphql_schema.specs.Declarations.{declarations_of}
use Rattle.graphql_rules_document.proofs.KnownFieldTypes.{field-types-are-known}
use Rattle.graphql_plain_validity.proofs.UsedVariables.{variables-stay-used}
use Rattle.graphql_plain_validity.proofs.variables.variables_stay_used.Goals as goal

pub returns : goal.returns
returns g c =
    let schema = declarations_of c.args.schema.now in
    variables-stay-used schema _ _ (field-types-are-known schema c.args.schema.now.faultless)
