use Rattle.std.proofs.Common.{ap, ◌∙◌}
use Rattle.serde_json.specs.Data as json
use Rattle.serde_json.specs.View.{members_view, view}
use Rattle.serde_json.proofs.Views.{members_view-insert_entry}
use Rattle.graphql_stores.proofs.plain_lines.put.Goals as goal

pub returns-in-Ok : goal.returns-in-Ok
returns-in-Ok c =
    ap members_view c.in-Ok.ensures.entries
    ∙ members_view-insert_entry c.args.members.now.entries c.in_ok-name.name c.args.value
    ∙ ap (λ k. json.put k (view c.args.value) (members_view c.args.members.now.entries)) c.in_ok-name.ensures.ok
