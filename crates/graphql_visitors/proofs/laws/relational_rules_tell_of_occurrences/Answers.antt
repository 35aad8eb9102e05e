use Rattle.std.proofs.Common.{subst}
use Rattle.graphql_occurrences.proofs.TellsDefinitions.{events_told}
use Rattle.graphql_occurrences.specs.Events.{events}
use Rattle.graphql_visitors.proofs.RuleLemmas.{runs_locally}
use Rattle.graphql_visitors.specs.Rules.{Tell}
use Rattle.graphql_visitors.specs.Runs.{joined}
use Rattle.graphql_visitors.proofs.laws.relational_rules_tell_of_occurrences.Goals as goal

pub returns : goal.returns
returns g c = λ subject v w told runs.
    subst (λ parts. Tell (g.R.RelationalRule.says subject) parts (joined told)) (events_told subject.schema subject.document)
    (runs_locally g.R.RelationalRule.says subject v w (events subject.schema subject.document) told runs)
