use Rattle.std.proofs.Common.{◌≡◌, map, take}
use Rattle.graphql_resolvers.specs.Answers.{leaf}
use Rattle.graphql_resolvers.proofs.answers.texts.Given as goal

abbrev pub invariant-words : goal.invariant-words
invariant-words g l = l.items ≡ map (λ w. leaf w.now) (take l.word-index l.words)
