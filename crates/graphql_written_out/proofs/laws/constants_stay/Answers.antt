use Rattle.graphql_written_out.proofs.FilledLaws as law
use Rattle.graphql_written_out.proofs.laws.constants_stay.Goals as goal

pub returns : goal.returns
returns g c = law.constants_stay _
