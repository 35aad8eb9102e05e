use Rattle.std.proofs.Common.{◌≡◌, ◌≤◌, Some, option_and_then, string_bytes, sym, ap, subst, ◌∙◌}
use Rattle.serde_json.specs.Data.{depth, object}
use Rattle.serde_json.specs.Read.{max_depth}
use Rattle.serde_json.specs.View.{members_view, view}
use Rattle.graphql_lines.specs.Request.{request_in, request_of}
use Rattle.graphql_lines.proofs.Requests.{data_of-read}
use Rattle.graphql_stores.specs.PlainLines.{AsksPlain}
use Rattle.graphql_stores.proofs.LineOfPlain.{of-object, on-some}
use Rattle.graphql_stores.proofs.plain_lines.plain_line_of.Goals as goal

pub returns-in-Some : goal.returns-in-Some
returns-in-Some c =
    let ms = members_view c.in-Some.members.entries in
    let read = c.in-Ok.ensures in
    let is : view c.in-Ok.value ≡ object ms = of-object (view c.in-Ok.value) ms (sym c.in-Some.ensures) in
    let asked : request_of c.args.line.now ≡ request_in (object ms) =
    ap (option_and_then request_in) (sym (data_of-read c.args.line.now (view c.in-Ok.value) read.ok.0 read.ok.1) ∙ ap Some is) in
    on-some c.line_of_members.result _ _
    (λ key asks. subst (λ o. AsksPlain o (string_bytes c.args.printed.text) c.args.printed.used.keys (string_bytes key)) (sym asked)
    (asks (subst (λ d. depth d ≤ max_depth) is read.nests)))
    c.line_of_members.ensures
