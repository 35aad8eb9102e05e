use Rattle.graphql_written_out.proofs.FilledLaws as law
use Rattle.graphql_written_out.proofs.laws.agrees_with_constants.Goals as goal

pub returns : goal.returns
returns g c = law.agrees_with_constants _
