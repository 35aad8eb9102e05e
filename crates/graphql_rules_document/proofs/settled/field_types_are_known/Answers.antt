use Rattle.graphql_schema.specs.Declarations.{declarations_of}
use Rattle.graphql_rules_document.proofs.KnownFieldTypes.{field-types-are-known}
use Rattle.graphql_rules_document.proofs.settled.field_types_are_known.Goals as goal

pub returns : goal.returns
returns g c = field-types-are-known (declarations_of c.args.schema.now) c.args.schema.now.faultless
