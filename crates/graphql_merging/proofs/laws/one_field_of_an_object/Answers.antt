use Rattle.graphql_merging.proofs.OneObject.{one-field-of-object}
use Rattle.graphql_merging.proofs.laws.one_field_of_an_object.Goals as goal

pub returns : goal.returns
returns g c = one-field-of-object _ _ g.S.PartialEq.eq c.args.schema.now.types
