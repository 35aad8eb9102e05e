use Rattle.graphql_plain_text.proofs.Parts.{closed_tokens_end}
use Rattle.graphql_plain_text.proofs.read_back_laws.closed_tokens_end.Goals as goal

pub returns : goal.returns
returns c = closed_tokens_end
