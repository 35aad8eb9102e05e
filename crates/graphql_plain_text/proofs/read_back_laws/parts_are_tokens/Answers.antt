use Rattle.graphql_plain_text.proofs.Parts.{parts_are_tokens}
use Rattle.graphql_plain_text.proofs.read_back_laws.parts_are_tokens.Goals as goal

pub returns : goal.returns
returns c = parts_are_tokens
