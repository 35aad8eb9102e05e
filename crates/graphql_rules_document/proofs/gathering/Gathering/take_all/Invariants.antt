use Rattle.std.proofs.Common.{◌≡◌, fold, length}
use Rattle.graphql_document_walk.specs.Pending.{ahead}
use Rattle.graphql_rules_document.specs.Gathered.{gathered, with_event}
use Rattle.graphql_rules_document.proofs.gathering.Gathering.take_all.Given as goal

abbrev pub invariant-events : goal.invariant-events
invariant-events g l = fold with_event (gathered l.self) (ahead l.walk) ≡ fold with_event (gathered l.initial.self) (ahead l.initial.walk)

abbrev pub decreases-events : goal.decreases-events
decreases-events g l = length (ahead l.walk)
