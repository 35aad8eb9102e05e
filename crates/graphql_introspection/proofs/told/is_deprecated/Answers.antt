use Rattle.std.proofs.lemmas.Bool.Decides.{same_from_decides}
use Rattle.graphql_introspection.specs.Told.{is_deprecated}
use Rattle.graphql_introspection.proofs.Deprecated.{deprecated_decides}
use Rattle.graphql_introspection.proofs.told.is_deprecated.Goals as goal

pub returns : goal.returns
returns c = same_from_decides c.is_deprecated.result (is_deprecated c.args.status.now) c.is_deprecated.ensures (deprecated_decides c.args.status.now)
