use Rattle.graphql_schema.specs.Declarations.{declarations_of}
use Rattle.graphql_rules_document.proofs.KnownFieldTypes.{field-types-are-known}
use Rattle.graphql_plain_validity.proofs.WrittenSets.{written-sets-are-filled}
use Rattle.graphql_plain_validity.proofs.laws.written_sets_are_filled.Goals as goal

pub returns : goal.returns
returns g c =
    let schema = declarations_of c.args.schema.now in
    written-sets-are-filled schema (field-types-are-known schema c.args.schema.now.faultless)
