use Rattle.std.proofs.Common.{◌∙◌, ap, fold}
use Rattle.graphql_document_walk.specs.Pending.{ahead}
use Rattle.graphql_rules_document.specs.Gathered.{scopes_gathered, with_event}
use Rattle.graphql_rules_document.proofs.gathering.gather.Goals as goal

pub returns : goal.returns
returns g c = c.into_scopes.ensures ∙ ap scopes_gathered (c.in_ok-take_all.ensures ∙ ap (λ h. fold with_event h (ahead c.args.walk)) c.new-gathering.ensures)
