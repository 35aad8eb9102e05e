use Rattle.graphql_plain_text.proofs.Types.{written_is_found}
use Rattle.graphql_plain_text.proofs.read_back_laws.written_is_found.Goals as goal

pub returns : goal.returns
returns c = written_is_found
