use Rattle.std.proofs.Common.{◌≤◌, Some, ap, sym, subst, ◌∙◌, string_bytes}
use Rattle.std.proofs.lemmas.Str.{IsUtf8-string_bytes}
use Rattle.serde_json.specs.Data.{depth, object}
use Rattle.serde_json.specs.Read.{max_depth}
use Rattle.serde_json.specs.View.{members_view}
use Rattle.serde_json.proofs.Views.{view-Object}
use Rattle.graphql_lines.proofs.Requests.{data_of-read}
use Rattle.graphql_stores.proofs.plain_lines.text_of_members.Goals as goal

pub returns-in-Ok : goal.returns-in-Ok
returns-in-Ok c = λ within.
    let same = view-Object c.args.members in
    sym (data_of-read (string_bytes c.in-Ok.text) (object (members_view c.args.members.entries)) (IsUtf8-string_bytes c.in-Ok.text)
    (c.in-Ok.ensures.reads_back (subst (λ d. depth d ≤ max_depth) (sym same) within) ∙ ap Some same))
