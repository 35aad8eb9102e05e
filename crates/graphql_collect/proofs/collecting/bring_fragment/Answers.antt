use Rattle.std.proofs.Common.{rules, ◌≡◌, ◌∙◌, sym, false, Some, None}
use Rattle.std.specs.List.{list_any}
use Rattle.std.specs.Str.{bytes_eq}
use Rattle.graphql_collect.proofs.SizeLaws.{left-enter}
use Rattle.graphql_written_out.specs.Written.{fragment_meant}
use Rattle.graphql_collected.specs.Requests.{fragments_in}
use Rattle.graphql_collect.specs.Sizes.{size, turns}
use Rattle.graphql_collect.proofs.Bringing.{bring-out, bring-unknown, bring-other, bring-entered, bring-fragment}
use Rattle.graphql_collect.proofs.collecting.bring_fragment.Goals as goal

pub returns-then-drops-clause-brings : goal.returns-then-drops-clause-brings
returns-then-drops-clause-brings g c = bring-out g.S.ScalarValue.answer c.args.request.now c.args.object.now c.args.visited.now.keys c.args.spread.now (sym c.drops.ensures ∙ c.if-drops.true)

pub returns-in-None-clause-brings : goal.returns-in-None-clause-brings
returns-in-None-clause-brings g c =
    let e : fragment_meant (fragments_in c.args.request.now) c.args.spread.now.item.name.item ≡ None = search rules in
    bring-unknown g.S.ScalarValue.answer c.args.request.now c.args.object.now c.args.visited.now.keys c.args.spread.now e

pub returns-then-not-is_below-clause-brings : goal.returns-then-not-is_below-clause-brings
returns-then-not-is_below-clause-brings g c =
    let e : fragment_meant (fragments_in c.args.request.now) c.args.spread.now.item.name.item ≡ Some c.in-Some.fragment.now = search rules in
    bring-other g.S.ScalarValue.answer c.args.request.now c.args.object.now c.args.visited.now.keys c.args.spread.now c.in-Some.fragment.now
    (sym c.drops.ensures ∙ c.if-drops.false) e (search rules)

pub returns-then-has_name-clause-brings : goal.returns-then-has_name-clause-brings
returns-then-has_name-clause-brings g c =
    let e : fragment_meant (fragments_in c.args.request.now) c.args.spread.now.item.name.item ≡ Some c.in-Some.fragment.now = search rules in
    bring-entered g.S.ScalarValue.answer c.args.request.now c.args.object.now c.args.visited.now.keys c.args.spread.now c.in-Some.fragment.now
    (sym c.drops.ensures ∙ c.if-drops.false) e (search rules) (search rules) (search rules)

pub returns-else-has_name-clause-brings : goal.returns-else-has_name-clause-brings
returns-else-has_name-clause-brings g c =
    let e : fragment_meant (fragments_in c.args.request.now) c.args.spread.now.item.name.item ≡ Some c.in-Some.fragment.now = search rules in
    let new : list_any (bytes_eq c.args.spread.now.item.name.item) c.args.visited.now.keys ≡ false = search rules in
    rw c.as_slice.ensures (bring-fragment g.S.ScalarValue.answer c.args.request.now c.args.object.now c.args.visited.now.keys c.args.spread.now c.in-Some.fragment.now
    (sym c.drops.ensures ∙ c.if-drops.false) e (search rules) (search rules) new)

pub returns-else-has_name-clause-sized : goal.returns-else-has_name-clause-sized
returns-else-has_name-clause-sized g c =
    let e : fragment_meant (fragments_in c.args.request.now) c.args.spread.now.item.name.item ≡ Some c.in-Some.fragment.now = search rules in
    let new : list_any (bytes_eq c.args.spread.now.item.name.item) c.args.visited.now.keys ≡ false = search rules in
    rw c.as_slice.ensures (
      left-enter size (fragments_in c.args.request.now) c.args.visited.now.keys c.args.spread.now.item.name.item c.in-Some.fragment.now e new,
      left-enter turns (fragments_in c.args.request.now) c.args.visited.now.keys c.args.spread.now.item.name.item c.in-Some.fragment.now e new,
    )
