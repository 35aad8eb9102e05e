use Rattle.std.proofs.Common.{◌≡◌, [], drop}
use Rattle.graphql_resolvers.proofs.TextTurns.{put}
use Rattle.graphql_resolvers.proofs.answers.texts_under.Given as goal

-- what was put, and then what is left, is what the whole gives
abbrev pub invariant-pairs : goal.invariant-pairs
invariant-pairs l = put [] l.pairs ≡ put l.object.fields (drop l.pair-index l.pairs)
