use Rattle.std.proofs.Common.{◌≡◌, false, fold, sym, ap, ◌∙◌}
use Rattle.graphql_document_walk.specs.Pending.{ahead}
use Rattle.graphql_schema.specs.Declarations.{declarations_of}
use Rattle.graphql_rules_document.proofs.GatheredLemmas.{gathered_is}
use Rattle.graphql_rules_document.specs.Gathered.{gathered, nothing, scopes_gathered, with_event}
use Rattle.graphql_rules_document.specs.Scopes.{scopes_in}
use Rattle.graphql_validation.proofs.WalkLemmas.{not_failed}
use Rattle.graphql_validation.proofs.one_walk.visit_and_gather.Goals as goal
use Rattle.graphql_validation.proofs.one_walk.visit_and_gather.Goals.{in-Ok, in-Err}

pub returns-clause-gathered : goal.returns-clause-gathered
returns-clause-gathered g c = λ m.
    let stood : c.match-new.context.failed ≡ false = sym (ap (λ x. x.failed) c.stand_at.ensures) ∙ m in
    c.into_scopes.ensures ∙ elim c.match-new.branch [
      | in-Ok w ↦
          ap (λ x. scopes_gathered (gathered x)) w.gathering-is
          ∙ ap scopes_gathered (w.follow.ensures.gathered (sym (ap (λ x. x.failed) w.context-is) ∙ stood))
          ∙ ap (λ h. scopes_gathered (fold with_event h (ahead w.in-Ok.walk))) c.new-gathering.ensures
          ∙ ap (λ es. scopes_gathered (fold with_event (nothing {S = g.row.S.Denot}) es)) w.in-Ok.ensures.events
          ∙ gathered_is (declarations_of c.schema.result.now) c.document.result.now
          ∙ (λ i. scopes_in (declarations_of ((c.schema.ensures i).now)) ((c.document.ensures i).now))
      | in-Err w ↦ not_failed c.args.context.now w.fail.new.self _ w.fail.ensures (sym (ap (λ x. x.failed) w.context-is) ∙ stood)
    ]
