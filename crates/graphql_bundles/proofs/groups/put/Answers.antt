use Rattle.std.proofs.Common.{◌≡◌, ◌∙◌, sym, ap, map, Ok, Err, OnOk}
use Rattle.std.specs.Str.{bytes_eq}
use Rattle.indexmap.specs.IndexSet.{insert_key}
use Rattle.graphql_bundles.specs.Groups.{put}
use Rattle.graphql_bundles.proofs.GroupLemmas.{keys-put}
use Rattle.graphql_bundles.proofs.groups.put.Goals as goal

pub returns-clause-keys : goal.returns-clause-keys
returns-clause-keys g c =
    let x = c.args.field.now in
    let inserted : c.insert_full.new.self.keys ≡ map (λ h. h.0) (put x c.args.groups.now) =
    c.in_ok-place.ensures.keys ∙ (λ j. insert_key bytes_eq (c.requires.keys j) (c.key_of.ensures j)) ∙ sym (keys-put x c.args.groups.now) in
    elim c.put_at.result as (λ r. OnOk r (c.put_at.new.groups ≡ put x c.args.groups.now) → OnOk r (c.insert_full.new.self.keys ≡ map (λ h. h.0) c.put_at.new.groups)) [
      | Ok _ ↦ λ all. inserted ∙ ap (map (λ h. h.0)) (sym all)
      | Err _ ↦ λ _. tt
    ] c.put_at.ensures.put
