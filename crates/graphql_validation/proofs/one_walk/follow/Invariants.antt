use Rattle.std.proofs.Common.{◌≡◌, fold, length}
use Rattle.graphql_document_walk.specs.Pending.{ahead}
use Rattle.graphql_rules_document.specs.Gathered.{gathered, with_event}
use Rattle.graphql_visitors.specs.Runs.{Visited}
use Rattle.graphql_validation.proofs.one_walk.follow.Given as goal

-- what is ahead leads to where all of it leads, for the visitor and for what is gathered
abbrev pub invariant-events : goal.invariant-events
invariant-events g l =
    ((w : _) (d : _) → Visited g.V.Visitor.step (ahead l.walk) l.visitor w l.context d → Visited g.V.Visitor.step (ahead l.initial.walk) l.initial.visitor w l.initial.context d)
    × (fold with_event (gathered l.gathering) (ahead l.walk) ≡ fold with_event (gathered l.initial.gathering) (ahead l.initial.walk))

abbrev pub decreases-events : goal.decreases-events
decreases-events g l = length (ahead l.walk)
