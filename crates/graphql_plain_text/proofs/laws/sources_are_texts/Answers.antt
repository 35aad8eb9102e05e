use Rattle.graphql_plain_text.proofs.PartedTexts.{sources-are-texts}
use Rattle.graphql_plain_text.proofs.laws.sources_are_texts.Goals as goal

pub returns : goal.returns
returns c = sources-are-texts
