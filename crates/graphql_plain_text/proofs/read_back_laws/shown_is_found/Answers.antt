use Rattle.graphql_plain_text.proofs.ReadBack.{shown_is_found}
use Rattle.graphql_plain_text.proofs.read_back_laws.shown_is_found.Goals as goal

pub returns : goal.returns
returns c = shown_is_found
