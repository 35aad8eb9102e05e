use Rattle.graphql_plain_text.proofs.ReadBack.{shown_is_read_back}
use Rattle.graphql_plain_text.proofs.read_back_laws.shown_is_read_back.Goals as goal

pub returns : goal.returns
returns c = shown_is_read_back
