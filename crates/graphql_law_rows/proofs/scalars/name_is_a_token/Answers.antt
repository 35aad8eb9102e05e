use Rattle.std.proofs.Common.{codes}
use Rattle.graphql_law_rows.proofs.SampleScalars.{id_is_a_name}
use Rattle.graphql_law_rows.proofs.scalars.name_is_a_token.Goals as goal

pub returns : goal.returns
returns c = (c.names_are_tokens.ensures (codes "_id")).0 id_is_a_name
