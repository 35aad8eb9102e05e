use Rattle.std.proofs.Common.{◌≡◌, ℕ, List, String, Global, string_bytes, string_cmp, ap, ◌∙◌}
use Rattle.std.specs.BTreeMap.{insert_entry}
use Rattle.serde_json.specs.Data.{put}
use Rattle.serde_json.specs.View.{view, members_view}
use Rattle.serde_json.specs.declared.value.Value.{Value}
use Rattle.serde_json.proofs.Views.{Entry, members_view-insert_entry}
use Rattle.graphql_http.proofs.query_line.set.Goals as goal

sets : (old new : List Entry) (key : String Global) (name : List ℕ) (value : Value)
    → new ≡ insert_entry string_cmp old key value → string_bytes key ≡ name
    → members_view new ≡ put name (view value) (members_view old)
sets old new key name value inserted named =
    ap (λ es. members_view es) inserted
    ∙ (members_view-insert_entry old key value ∙ ap (λ k. put k (view value) (members_view old)) named)

pub returns-in-Ok : goal.returns-in-Ok
returns-in-Ok c =
    sets c.args.members.now.entries c.insert.new.self.entries _ c.args.name.now c.args.value c.in-Ok.ensures.entries
    c.in_ok-key.ensures.ok
