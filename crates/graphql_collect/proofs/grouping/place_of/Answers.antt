use Rattle.std.proofs.Common.{◌≡◌, ◌∙◌, sym, ap, true, false, arith, length}
use Rattle.std.specs.Str.{bytes_eq}
use Rattle.graphql_collect.proofs.Keyed.{passed-more, stops-at, stops-after}
use Rattle.graphql_collect.proofs.grouping.place_of.Goals as goal

pub returns-then-same_name : goal.returns-then-same_name
returns-then-same_name g c =
    let p = bytes_eq c.args.key.now in
    let x = c.index-groups-place.result in
    let passes : p x.0 ≡ true = ap p (sym c.as_str.ensures) ∙ sym c.same_name.ensures ∙ c.if-same_name.true in
    stops-at p c.args.groups.now c.groups.place x c.groups-test.true c.index-groups-place.is passes c.groups.invariant

pub groups-preserved : goal.groups-preserved
groups-preserved g c =
    let p = bytes_eq c.args.key.now in
    let x = c.index-groups-place.result in
    let fails : p x.0 ≡ false = ap p (sym c.as_str.ensures) ∙ sym c.same_name.ensures ∙ c.if-same_name.false in
    passed-more p c.args.groups.now c.groups.place x c.groups-test.true c.index-groups-place.is fails c.groups.invariant

pub returns : goal.returns
returns g c =
    let all : c.groups.place ≡ length c.args.groups.now = omega (arith, c.groups-test.false, c.groups.auto.place-end) in
    sym all ∙ stops-after (bytes_eq c.args.key.now) c.args.groups.now c.groups.place all c.groups.invariant
