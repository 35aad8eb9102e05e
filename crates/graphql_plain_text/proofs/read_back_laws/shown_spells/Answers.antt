use Rattle.graphql_plain_text.proofs.ReadBack.{shown_spells}
use Rattle.graphql_plain_text.proofs.read_back_laws.shown_spells.Goals as goal

pub returns : goal.returns
returns c = shown_spells
