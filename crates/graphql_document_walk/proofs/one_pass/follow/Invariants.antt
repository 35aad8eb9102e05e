use Rattle.std.proofs.Common.{length}
use Rattle.graphql_document_walk.specs.Pending.{ahead}
use Rattle.graphql_visitors.specs.Runs.{Visited}
use Rattle.graphql_document_walk.proofs.one_pass.follow.Given as goal

-- what is ahead leads to where all of it leads
abbrev pub invariant-events : goal.invariant-events
invariant-events g l =
    (w : _) (d : _) → Visited g.V.Visitor.step (ahead l.walk) l.visitor w l.context d → Visited g.V.Visitor.step (ahead l.initial.walk) l.initial.visitor w l.initial.context d

abbrev pub decreases-events : goal.decreases-events
decreases-events g l = length (ahead l.walk)
