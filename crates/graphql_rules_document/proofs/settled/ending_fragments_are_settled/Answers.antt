use Rattle.graphql_schema.specs.Declarations.{declarations_of}
use Rattle.graphql_rules_document.proofs.KnownFieldTypes.{field-types-are-known}
use Rattle.graphql_rules_document.proofs.SettledFragments.{ending-fragments-are-settled}
use Rattle.graphql_rules_document.proofs.settled.ending_fragments_are_settled.Goals as goal

pub returns : goal.returns
returns g c = ending-fragments-are-settled (declarations_of c.args.schema.now) (field-types-are-known (declarations_of c.args.schema.now) c.args.schema.now.faultless)
