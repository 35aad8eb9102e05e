use Rattle.graphql_plain_validity.proofs.PartKinds.{plain-kinds-stem}
use Rattle.graphql_plain_validity.proofs.parts.plain_kinds_stem.Goals as goal

pub returns : goal.returns
returns g c = plain-kinds-stem _ _ _ _
