use Rattle.std.proofs.Common.{◌≡◌, [], ◌∷◌, refl, sym, subst}
use Rattle.std.specs.Prelude.{MatchOption}
use Rattle.graphql_occurrences.specs.Lent.{seen_of}
use Rattle.graphql_document_walk.specs.Pending.{ahead}
use Rattle.graphql_visitors.specs.Runs.{Did, Visited}
use Rattle.graphql_visitors.proofs.RunLemmas.{visited_none, visited_failed, visited_after}
use Rattle.graphql_document_walk.proofs.one_pass.follow.Goals as goal

pub events-preserved : goal.events-preserved
events-preserved g c = λ w d rest.
    c.events.invariant w d
    (subst (λ es. Visited g.V.Visitor.step es c.events.visitor w c.events.context d)
    (sym (subst (λ o. MatchOption o (ahead c.events.walk ≡ []) (λ n. ahead c.events.walk ≡ seen_of n ∷ ahead c.next.new.self)) c.in-Ok-Some.field-0-is c.in-Ok-Some.ensures.events))
    (visited_after g.V.Visitor.step c.in-Ok-Some.seen.event (ahead c.next.new.self) c.events.visitor c.on.new.self w c.events.context (record c.events.context { around = c.in-Ok-Some.seen.around }) c.on.new.context d refl (subst (λ a. Did g.V.Visitor.step c.in-Ok-Some.seen.event c.events.visitor c.on.new.self a c.on.new.context) c.stand_at.ensures c.on.ensures) rest))

pub returns-in-Ok-None : goal.returns-in-Ok-None
returns-in-Ok-None g c =
    c.events.invariant _ _ (visited_none g.V.Visitor.step (ahead c.events.walk) c.events.visitor c.events.context
    (subst (λ o. MatchOption o (ahead c.events.walk ≡ []) (λ n. ahead c.events.walk ≡ seen_of n ∷ ahead c.next.new.self)) c.in-Ok-None.field-0-is c.in-Ok-None.ensures.events))

pub returns-in-Err : goal.returns-in-Err
returns-in-Err g c =
    c.events.invariant _ _ (visited_failed g.V.Visitor.step (ahead c.events.walk) c.events.visitor c.events.visitor c.events.context c.fail.new.self c.fail.ensures)
