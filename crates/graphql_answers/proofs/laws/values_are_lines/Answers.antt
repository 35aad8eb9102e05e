use Rattle.std.proofs.Common.{refl}
use Rattle.graphql_answers.specs.Lines.{answer_json}
use Rattle.graphql_answers.proofs.NoFeeds.{no_feed-json}
use Rattle.graphql_answers.proofs.laws.values_are_lines.Goals as goal

pub returns : goal.returns
returns c = λ v. record { front = answer_json v; is = refl; no_feed = no_feed-json (λ scalar. scalar) v }
