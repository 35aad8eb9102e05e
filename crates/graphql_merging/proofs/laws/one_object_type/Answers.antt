use Rattle.graphql_merging.proofs.OneObject.{one-object}
use Rattle.graphql_merging.proofs.laws.one_object_type.Goals as goal

pub returns : goal.returns
returns g c = one-object c.args.schema.now.types c.args.object.now
