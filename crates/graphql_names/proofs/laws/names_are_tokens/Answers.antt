use Rattle.graphql_names.proofs.NameTokens.{names_are_tokens}
use Rattle.graphql_names.proofs.laws.names_are_tokens.Goals as goal

pub returns : goal.returns
returns c = names_are_tokens
