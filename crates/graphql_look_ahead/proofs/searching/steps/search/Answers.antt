use Rattle.std.proofs.Common.{rules, refl, sym, ap, ◌∙◌, reverse}
use Rattle.graphql_collected.specs.Requests.{drops_in, fragments_in}
use Rattle.graphql_look_ahead.specs.declared.searching.Task.TheVariants as a_task
use Rattle.graphql_look_ahead.proofs.SearchLemmas.{pushed-task, pushed-three, pushed-two, turn-end, turn-field-found, turn-field-other, turn-field-out, turn-inline, turn-inline-out, turn-spread, turn-spread-out, turn-spread-searched}
use Rattle.graphql_look_ahead.proofs.searching.steps.search.Goals.{then-ne-via-then-ne, then-ne-via-else-ne+then-drops, then-not-drops+in_ok-push-in-Inline, else-not-drops, then-not-contains+then-not-drops-2+in_ok-push-in-Spread+in_ok-push-in-Spread-2, else-not-contains, else-not-contains-via-then-not-contains+else-not-drops-2, else-not-contains-via-else-not-contains}
use Rattle.graphql_look_ahead.proofs.searching.steps.search.Goals as goal

pub returns-in_default : goal.returns-in_default
returns-in_default g c =
    turn-end (drops_in g.S.ScalarValue.answer c.args.request.now) (fragments_in c.args.request.now) c.args.key.now
    c.args.top (reverse c.args.tasks.now) c.args.searched.now.keys c.in_default.ensures.next c.requires.search

pub returns-then-ne : goal.returns-then-ne
returns-then-ne g c = elim c.then-ne.branch [
  | then-ne-via-then-ne w ↦ turn-field-other (drops_in g.S.ScalarValue.answer c.args.request.now) (fragments_in c.args.request.now) c.args.key.now c.requires.settled
      c.args.top c.next.new.self (reverse c.args.tasks.now) (reverse c.push.new.self) c.args.searched.now.keys c.in-Some.met
      c.in-Some.ensures.next c.in-Some.ensures.applies c.requires.search
      c.in-Field.field c.in-Field.is (search rules) (pushed-task c.args.tasks.now c.push.new.self (a_task.Search c.next.new.self) c.in_ok-push.ensures.ok)
  | then-ne-via-else-ne+then-drops w ↦ turn-field-out (drops_in g.S.ScalarValue.answer c.args.request.now) (fragments_in c.args.request.now) c.args.key.now c.requires.settled
      c.args.top c.next.new.self (reverse c.args.tasks.now) (reverse c.push.new.self) c.args.searched.now.keys c.in-Some.met
      c.in-Some.ensures.next c.in-Some.ensures.applies c.requires.search
      c.in-Field.field c.in-Field.is (sym w.drops.ensures ∙ w.if-drops.true) (pushed-task c.args.tasks.now c.push.new.self (a_task.Search c.next.new.self) c.in_ok-push.ensures.ok)
]

pub returns-else-drops : goal.returns-else-drops
returns-else-drops g c = (
  turn-field-found (drops_in g.S.ScalarValue.answer c.args.request.now) (fragments_in c.args.request.now) c.args.key.now c.requires.settled
      c.args.top c.next.new.self (reverse c.args.tasks.now) (reverse c.push.new.self) c.args.searched.now.keys c.in-Some.met
      c.in-Some.ensures.next c.in-Some.ensures.applies c.requires.search
      c.in-Field.field c.in-Field.is (sym c.drops.ensures ∙ c.if-drops.false) (search rules),
  refl,
)

pub returns-after-not-drops : goal.returns-after-not-drops
returns-after-not-drops g c = elim c.if-not-drops.branch [
  | then-not-drops+in_ok-push-in-Inline w ↦ turn-inline (drops_in g.S.ScalarValue.answer c.args.request.now) (fragments_in c.args.request.now) c.args.key.now c.requires.settled
      c.args.top c.next.new.self (reverse c.args.tasks.now) (reverse c.if-not-drops.tasks) c.args.searched.now.keys c.in-Some.met
      c.in-Some.ensures.next c.in-Some.ensures.applies c.requires.search
      c.in-Inline.inline c.in-Inline.is _ (search rules) w.within.ensures w.as_slice.ensures
      (ap reverse w.tasks-is ∙ pushed-two c.args.tasks.now c.push.new.self w.push-then-not-drops.new.self (a_task.Search c.next.new.self) _ c.in_ok-push.ensures.ok w.in_ok-push-in-Inline.ensures.ok)
  | else-not-drops w ↦ turn-inline-out (drops_in g.S.ScalarValue.answer c.args.request.now) (fragments_in c.args.request.now) c.args.key.now c.requires.settled
      c.args.top c.next.new.self (reverse c.args.tasks.now) (reverse c.if-not-drops.tasks) c.args.searched.now.keys c.in-Some.met
      c.in-Some.ensures.next c.in-Some.ensures.applies c.requires.search
      c.in-Inline.inline c.in-Inline.is (search rules) (ap reverse w.tasks-is ∙ (pushed-task c.args.tasks.now c.push.new.self (a_task.Search c.next.new.self) c.in_ok-push.ensures.ok))
]

pub returns-after-not-contains : goal.returns-after-not-contains
returns-after-not-contains g c = elim c.if-not-contains.branch [
  | then-not-contains+then-not-drops-2+in_ok-push-in-Spread+in_ok-push-in-Spread-2 w ↦ turn-spread (drops_in g.S.ScalarValue.answer c.args.request.now) (fragments_in c.args.request.now) c.args.key.now c.requires.settled
      c.args.top c.next.new.self (reverse c.args.tasks.now) (reverse c.if-not-contains.tasks) c.args.searched.now.keys c.in-Some.met
      c.in-Some.ensures.next c.in-Some.ensures.applies c.requires.search
      c.in-Spread.spread c.in-Spread.fragment c.in-Spread.is _ c.copied-name.result c.copied-name.ensures (search rules) refl w.as_slice-then-not-drops-2.ensures
      (ap reverse w.tasks-is ∙ pushed-three c.args.tasks.now c.push.new.self w.push-then-not-drops-2.new.self w.push-then-not-drops-2-2.new.self (a_task.Search c.next.new.self)
      (a_task.Searched c.copied-name.result) _ c.in_ok-push.ensures.ok w.in_ok-push-in-Spread.ensures.ok w.in_ok-push-in-Spread-2.ensures.ok)
  | else-not-contains w ↦ elim w.else-not-contains.branch [
    | else-not-contains-via-then-not-contains+else-not-drops-2 v ↦ turn-spread-out (drops_in g.S.ScalarValue.answer c.args.request.now) (fragments_in c.args.request.now) c.args.key.now c.requires.settled
        c.args.top c.next.new.self (reverse c.args.tasks.now) (reverse c.if-not-contains.tasks) c.args.searched.now.keys c.in-Some.met
        c.in-Some.ensures.next c.in-Some.ensures.applies c.requires.search
        c.in-Spread.spread c.in-Spread.fragment c.in-Spread.is (search rules) (ap reverse w.tasks-is ∙ (pushed-task c.args.tasks.now c.push.new.self (a_task.Search c.next.new.self) c.in_ok-push.ensures.ok))
    | else-not-contains-via-else-not-contains v ↦ turn-spread-searched (drops_in g.S.ScalarValue.answer c.args.request.now) (fragments_in c.args.request.now) c.args.key.now c.requires.settled
        c.args.top c.next.new.self (reverse c.args.tasks.now) (reverse c.if-not-contains.tasks) c.args.searched.now.keys c.in-Some.met
        c.in-Some.ensures.next c.in-Some.ensures.applies c.requires.search
        c.in-Spread.spread c.in-Spread.fragment c.in-Spread.is (c.requires.search.lack c.in-Spread.spread.now.item.name.item (search rules)) (ap reverse w.tasks-is ∙ (pushed-task c.args.tasks.now c.push.new.self (a_task.Search c.next.new.self) c.in_ok-push.ensures.ok))
  ]
]
