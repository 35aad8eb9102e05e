use Rattle.graphql_plain_validity.proofs.PlainDocumentParts.{plain-parts-stem}
use Rattle.graphql_plain_validity.proofs.parts.plain_parts_stem.Goals as goal

pub returns : goal.returns
returns g c = plain-parts-stem _ _ _ _
