use Rattle.graphql_plain_text.proofs.Types.{written_spells}
use Rattle.graphql_plain_text.proofs.read_back_laws.written_spells.Goals as goal

pub returns : goal.returns
returns c = written_spells
