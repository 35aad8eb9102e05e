use Rattle.std.proofs.Common.{sym, ap, ◌∙◌, ◌∷◌, map}
use Rattle.graphql_collected.specs.Requests.{drops_in, fragments_in}
use Rattle.graphql_written_out.specs.Written.{condition_of}
use Rattle.graphql_look_ahead.specs.Applies.{bound, only_of}
use Rattle.graphql_look_ahead.specs.Open.{opened, rest_of}
use Rattle.graphql_look_ahead.specs.Told.{looked_at, with_request}
use Rattle.graphql_look_ahead.proofs.OpenLemmas.{ok-so, turn-end, turn-field, turn-field-out, turn-inline, turn-inline-out, turn-spread, turn-spread-out}
use Rattle.graphql_look_ahead.proofs.gathering.advance.Goals as goal

pub returns-in_default : goal.returns-in_default
returns-in_default g c =
    turn-end (drops_in g.S.ScalarValue.answer c.args.request.now) (fragments_in c.args.request.now) (with_request c.args.request.now)
    c.args.top c.args.open.now (map looked_at c.args.found.now) (rest_of c.next.new.self) c.in_default.ensures.next

pub returns-then-drops : goal.returns-then-drops
returns-then-drops g c =
    turn-field-out (drops_in g.S.ScalarValue.answer c.args.request.now) (fragments_in c.args.request.now) (with_request c.args.request.now)
    c.requires c.args.top c.next.new.self c.args.open.now c.push.new.self (map looked_at c.args.found.now) c.in-Some.met
    c.in-Some.ensures.next c.in-Some.ensures.applies c.in_ok-push.ensures.ok
    c.in-Field.field c.in-Field.is (sym c.drops.ensures ∙ c.if-drops.true)

pub returns-then-drops-2 : goal.returns-then-drops-2
returns-then-drops-2 g c =
    turn-spread-out (drops_in g.S.ScalarValue.answer c.args.request.now) (fragments_in c.args.request.now) (with_request c.args.request.now)
    c.requires c.args.top c.next.new.self c.args.open.now c.push.new.self (map looked_at c.args.found.now) c.in-Some.met
    c.in-Some.ensures.next c.in-Some.ensures.applies c.in_ok-push.ensures.ok
    c.in-Spread.spread c.in-Spread.fragment c.in-Spread.is (sym c.drops-in-Spread.ensures ∙ c.if-drops-2.true)

pub returns-then-drops-3 : goal.returns-then-drops-3
returns-then-drops-3 g c =
    turn-inline-out (drops_in g.S.ScalarValue.answer c.args.request.now) (fragments_in c.args.request.now) (with_request c.args.request.now)
    c.requires c.args.top c.next.new.self c.args.open.now c.push.new.self (map looked_at c.args.found.now) c.in-Some.met
    c.in-Some.ensures.next c.in-Some.ensures.applies c.in_ok-push.ensures.ok
    c.in-Inline.inline c.in-Inline.is (sym c.drops-in-Inline.ensures ∙ c.if-drops-3.true)

pub returns-else-drops : goal.returns-else-drops
returns-else-drops g c =
    ok-so c.find.result (turn-field (drops_in g.S.ScalarValue.answer c.args.request.now) (fragments_in c.args.request.now) (with_request c.args.request.now)
    c.requires c.args.top c.next.new.self c.args.open.now c.push.new.self (map looked_at c.args.found.now) c.in-Some.met
    c.in-Some.ensures.next c.in-Some.ensures.applies c.in_ok-push.ensures.ok
    c.in-Field.field c.in-Field.is (map looked_at c.find.new.found) (sym c.drops.ensures ∙ c.if-drops.false)) c.find.ensures

pub returns-else-drops-2 : goal.returns-else-drops-2
returns-else-drops-2 g c =
    ok-so c.open_list.result (λ o. turn-spread (drops_in g.S.ScalarValue.answer c.args.request.now) (fragments_in c.args.request.now) (with_request c.args.request.now)
    c.requires c.args.top c.next.new.self c.args.open.now c.push.new.self (map looked_at c.args.found.now) c.in-Some.met
    c.in-Some.ensures.next c.in-Some.ensures.applies c.in_ok-push.ensures.ok
    c.in-Spread.spread c.in-Spread.fragment c.in-Spread.is (opened c.open_list.new.open) (sym c.drops-in-Spread.ensures ∙ c.if-drops-2.false)
    (o ∙ ap (λ inner. (only_of c.args.top.applies, inner) ∷ opened c.push.new.self) c.as_slice.ensures)) c.open_list.ensures

pub returns-else-drops-3 : goal.returns-else-drops-3
returns-else-drops-3 g c =
    ok-so c.open_list-in-Inline.result (λ o. turn-inline (drops_in g.S.ScalarValue.answer c.args.request.now) (fragments_in c.args.request.now) (with_request c.args.request.now)
    c.requires c.args.top c.next.new.self c.args.open.now c.push.new.self (map looked_at c.args.found.now) c.in-Some.met
    c.in-Some.ensures.next c.in-Some.ensures.applies c.in_ok-push.ensures.ok
    c.in-Inline.inline c.in-Inline.is (opened c.open_list-in-Inline.new.open) (sym c.drops-in-Inline.ensures ∙ c.if-drops-3.false)
    (o ∙ ap (λ only. (only, c.as_slice-in-Inline.result.now) ∷ opened c.push.new.self) c.within-within.ensures
    ∙ ap (λ inner. (bound (only_of c.args.top.applies) (condition_of c.in-Inline.inline.now.item), inner) ∷ opened c.push.new.self) c.as_slice-in-Inline.ensures)) c.open_list-in-Inline.ensures
