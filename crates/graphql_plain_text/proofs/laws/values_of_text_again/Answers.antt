use Rattle.std.proofs.Common.{refl}
use Rattle.graphql_plain_text.proofs.RisingTokens.{tokens-rise}
use Rattle.graphql_plain_text.proofs.SpelledSets.{value-spelled}
use Rattle.graphql_plain_text.proofs.laws.values_of_text_again.Goals as goal

pub returns : goal.returns
returns g c = λ text finish front us back k x cut d.
    value-spelled _ _ _ (tokens-rise text _ _ cut) k us x
    (record { front = front; back = back; is = refl }) d
