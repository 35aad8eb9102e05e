use Rattle.graphql_plain_answers.proofs.UsedDefinitions.{final-stays}
use Rattle.graphql_plain_answers.proofs.laws.used_definitions_suffice.Goals as goal

pub returns : goal.returns
returns g c = λ given definitions names name used. final-stays names name used given definitions
