use Rattle.std.proofs.Common.{◌≡◌, false, fold, [], ◌∷◌, refl, sym, ap, subst, ◌∙◌}
use Rattle.std.specs.Prelude.{MatchOption}
use Rattle.std.specs.Result.{is_err}
use Rattle.graphql_occurrences.specs.Lent.{seen_of}
use Rattle.graphql_document_walk.specs.Pending.{ahead}
use Rattle.graphql_rules_document.specs.Gathered.{gathered, with_event}
use Rattle.graphql_visitors.specs.Runs.{Did, Visited}
use Rattle.graphql_visitors.proofs.RunLemmas.{visited_after, visited_failed, visited_none}
use Rattle.graphql_validation.proofs.WalkLemmas.{holds_of_value}
use Rattle.graphql_validation.proofs.one_walk.follow.Goals as goal

pub events-preserved : goal.events-preserved
events-preserved g c =
    let next : ahead c.events.walk ≡ seen_of c.in-Ok-Some.seen ∷ ahead c.next.new.self =
    subst (λ o. MatchOption o (ahead c.events.walk ≡ []) (λ n. ahead c.events.walk ≡ seen_of n ∷ ahead c.next.new.self)) c.in-Ok-Some.field-0-is c.in-Ok-Some.ensures.events in
    let taken : is_err c.take_in.result ≡ false = cc in (
      λ w d rest.
          c.events.invariant.0 w d
          (subst (λ es. Visited g.V.Visitor.step es c.events.visitor w c.events.context d) (sym next)
          (visited_after g.V.Visitor.step c.in-Ok-Some.seen.event (ahead c.next.new.self) c.events.visitor c.on.new.self w c.events.context (record c.events.context { around = c.in-Ok-Some.seen.around }) c.on.new.context d refl
          (subst (λ a. Did g.V.Visitor.step c.in-Ok-Some.seen.event c.events.visitor c.on.new.self a c.on.new.context) c.stand_at.ensures c.on.ensures)
          rest)),
      ap (λ h. fold with_event h (ahead c.next.new.self)) (holds_of_value c.take_in.result _ taken c.take_in.ensures)
          ∙ ap (λ es. fold with_event (gathered c.events.gathering) es) (sym next) ∙ c.events.invariant.1,
    )

pub returns-then-is_err-clause-visited : goal.returns-then-is_err-clause-visited
returns-then-is_err-clause-visited g c =
    let next : ahead c.events.walk ≡ seen_of c.in-Ok-Some.seen ∷ ahead c.next.new.self =
    subst (λ o. MatchOption o (ahead c.events.walk ≡ []) (λ n. ahead c.events.walk ≡ seen_of n ∷ ahead c.next.new.self)) c.in-Ok-Some.field-0-is c.in-Ok-Some.ensures.events in
    c.events.invariant.0 _ _
    (subst (λ es. Visited g.V.Visitor.step es c.events.visitor c.on.new.self c.events.context c.fail.new.self) (sym next)
    (visited_after g.V.Visitor.step c.in-Ok-Some.seen.event (ahead c.next.new.self) c.events.visitor c.on.new.self c.on.new.self c.events.context (record c.events.context { around = c.in-Ok-Some.seen.around }) c.on.new.context c.fail.new.self refl
    (subst (λ a. Did g.V.Visitor.step c.in-Ok-Some.seen.event c.events.visitor c.on.new.self a c.on.new.context) c.stand_at.ensures c.on.ensures)
    (visited_failed g.V.Visitor.step (ahead c.next.new.self) c.on.new.self c.on.new.self c.on.new.context c.fail.new.self c.fail.ensures)))

pub returns-in-Ok-None-clause-visited : goal.returns-in-Ok-None-clause-visited
returns-in-Ok-None-clause-visited g c =
    c.events.invariant.0 _ _ (visited_none g.V.Visitor.step (ahead c.events.walk) c.events.visitor c.events.context
    (subst (λ o. MatchOption o (ahead c.events.walk ≡ []) (λ n. ahead c.events.walk ≡ seen_of n ∷ ahead c.next.new.self)) c.in-Ok-None.field-0-is c.in-Ok-None.ensures.events))

pub returns-in-Err-clause-visited : goal.returns-in-Err-clause-visited
returns-in-Err-clause-visited g c =
    c.events.invariant.0 _ _ (visited_failed g.V.Visitor.step (ahead c.events.walk) c.events.visitor c.events.visitor c.events.context c.fail-in-Err.new.self c.fail-in-Err.ensures)
