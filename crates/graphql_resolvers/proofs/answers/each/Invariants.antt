use Rattle.std.proofs.Common.{◌≡◌, drop}
use Rattle.graphql_resolvers.specs.Answers as spec
use Rattle.graphql_resolvers.proofs.EachTurns.{from}
use Rattle.graphql_resolvers.proofs.answers.each.Given as goal

-- what was answered, and then what is left, is what the whole is answered
abbrev pub invariant-items : goal.invariant-items
invariant-items g l =
    (wanted : g.row.T.Denot → spec.Answer g.row.N.Denot) → spec.AnswersBy wanted (goal.F-post g l.answer)
    → spec.answers wanted l.items ≡ from l.answers (spec.answers wanted (drop l.item-index l.items))
