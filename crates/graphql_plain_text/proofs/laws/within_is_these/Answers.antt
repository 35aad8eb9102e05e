use Rattle.graphql_plain_text.proofs.RisingTokens.{within-self, tokens-rise}
use Rattle.graphql_plain_text.proofs.laws.within_is_these.Goals as goal

pub returns : goal.returns
returns c = λ text finish front a us back cut. within-self front a us back (tokens-rise text _ _ cut)
