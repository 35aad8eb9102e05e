use Rattle.std.proofs.Common.{ap, ◌∙◌}
use Rattle.std.specs.List.{flat_map}
use Rattle.graphql_occurrences.proofs.TellsDefinitions.{events_told}
use Rattle.graphql_occurrences.specs.Events.{events}
use Rattle.graphql_visitors.proofs.RuleLemmas.{runs_local}
use Rattle.graphql_visitors.proofs.laws.local_rules_tell_of_occurrences.Goals as goal

pub returns : goal.returns
returns g c = λ subject v w told runs.
    runs_local g.R.LocalRule.says subject v w (events subject.schema subject.document) told runs ∙ ap (flat_map (g.R.LocalRule.says subject)) (events_told subject.schema subject.document)
