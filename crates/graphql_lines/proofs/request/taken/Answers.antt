use Rattle.std.proofs.Common.{ap, ◌∙◌, option_map}
use Rattle.serde_json.specs.Find.{get_member}
use Rattle.serde_json.specs.View.{view, members_view}
use Rattle.serde_json.proofs.Views.{view-lookup}
use Rattle.graphql_lines.proofs.Members.{others_stay}
use Rattle.graphql_lines.proofs.request.taken.Goals as goal

pub returns-clause-value : goal.returns-clause-value
returns-clause-value c = ap (option_map view) c.remove.ensures.value ∙ view-lookup c.args.name.now c.args.members.now.entries

pub returns-clause-others : goal.returns-clause-others
returns-clause-others c = λ other apart.
    ap (λ es. get_member other (members_view es)) c.remove.ensures.entries ∙ others_stay c.args.name.now other apart c.args.members.now.entries
