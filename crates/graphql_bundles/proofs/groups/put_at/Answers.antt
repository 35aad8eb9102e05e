use Rattle.std.proofs.Common.{◌≡◌, ◌<◌, sym, subst, map, length}
use Rattle.std.specs.List.{IsDistinct, slice_set}
use Rattle.std.specs.Str.{bytes_eq}
use Rattle.graphql_bundles.specs.Groups.{put}
use Rattle.graphql_bundles.proofs.GroupLemmas.{place-within, put-at, put-counts, distinct-put}
use Rattle.graphql_bundles.proofs.groups.put_at.Goals as goal

pub index_mut-requires : goal.index_mut-requires
index_mut-requires g c =
    subst (λ hs. c.args.place < length hs) (sym c.in_ok-begin_at.ensures) (place-within c.args.field.now c.args.place c.args.groups.now c.requires.place)

pub returns : goal.returns
returns g c =
    let x = c.args.field.now in
    let all : slice_set c.begin_at.new.groups c.args.place (c.index_mut.result.now.0, c.push.new.self) ≡ put x c.args.groups.now =
    put-at x c.args.groups.now c.begin_at.new.groups c.args.place c.index_mut.result.now c.push.new.self c.in_ok-begin_at.ensures c.requires.distinct c.requires.place c.index_mut.ensures.value
    c.in_ok-push.ensures.ok in
    record {
      put = all;
      distinct = subst (λ hs. IsDistinct bytes_eq (map (λ h. h.0) hs)) (sym all) (distinct-put x c.args.groups.now c.requires.distinct);
      one = put-counts x c.args.groups.now c.begin_at.new.groups c.args.place c.index_mut.result.now c.push.new.self c.in_ok-begin_at.ensures c.requires.place c.index_mut.ensures.value
          c.in_ok-push.ensures.ok;
    }
