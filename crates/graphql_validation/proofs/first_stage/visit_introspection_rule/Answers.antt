use Rattle.std.proofs.Common.{◌≡◌, ap, ◌∙◌}
use Rattle.std.specs.List.{flat_map}
use Rattle.graphql_occurrences.proofs.TellsDefinitions.{events_told}
use Rattle.graphql_occurrences.specs.Events.{events}
use Rattle.graphql_rules.specs.DisableIntrospection.{disable_introspection_faults}
use Rattle.graphql_visitors.proofs.RuleLemmas.{runs_local}
use Rattle.graphql_visitors.specs.Rules.{local}
use Rattle.graphql_visitors.specs.Subjects.{subject_of}
use Rattle.graphql_validation.proofs.ReportedLemmas.{reports_exactly}
use Rattle.graphql_validation.proofs.WalkLemmas.{reports_visited}
use Rattle.graphql_validation.specs.FirstStage.{introspection_places}
use Rattle.graphql_validation.proofs.first_stage.visit_introspection_rule.Goals as goal

pub returns : goal.returns
returns g c =
    let subject = subject_of c.args.context.now in
    reports_exactly (introspection_places subject) c.args.context.now c.visit.new.context
    (reports_visited (local disable_introspection_faults) (λ ts. ts ≡ introspection_places subject) (events subject.schema subject.document) c.factory-rule.result c.visit.new.visitor c.args.context.now c.visit.new.context
    c.visit.ensures.visited c.visit.ensures.around
    (λ ts runs. runs_local disable_introspection_faults subject c.factory-rule.result c.visit.new.visitor (events subject.schema subject.document) ts runs ∙ ap (flat_map (disable_introspection_faults subject)) (events_told subject.schema subject.document)))
