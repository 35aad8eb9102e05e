use Rattle.std.proofs.Common.{◌≡◌, refl, sym, ◌∙◌, ap, slice_get, Some}
use Rattle.graphql_execution_walk.specs.Frames.{down_group}
use Rattle.graphql_execution_walk.specs.Paths.{up}
use Rattle.graphql_execution_walk.proofs.OutcomeLemmas.{up-last}
use Rattle.graphql_execution_walk.proofs.FrameLemmas.{group-given, nothing-given, group-path, group-fine, drop-end}
use Rattle.graphql_execution_walk.proofs.TurnLemmas.{nothing-due}
use Rattle.graphql_execution_walk.proofs.steps.give_object.Goals as goal

pub returns-in-None-clause-gives : goal.returns-in-None-clause-gives
returns-in-None-clause-gives g c = λ here path. nothing-given here c.args.waits c.args.value (sym (rw (c.in-None.is, c.get-these.ensures) at c.get.ensures.value)) path

pub returns-in-None-clause-path : goal.returns-in-None-clause-path
returns-in-None-clause-path g c = λ path p. p ∙ ap (down_group path) (drop-end c.args.waits.groups c.args.waits.next (sym (rw (c.in-None.is, c.get-these.ensures) at c.get.ensures.value)))

pub returns-clause-gives : goal.returns-clause-gives
returns-clause-gives g c = λ here path.
    let at : slice_get c.args.waits.groups c.args.waits.next ≡ Some c.in-Some.group.now = sym (rw (c.in-Some.is, c.get-these.ensures) at c.get.ensures.value) in
    rw (c.behind-next.ensures c.in-Some.ensures.within) (group-given here c.args.waits c.in-Some.group.now c.args.value c.in_ok-members-in-Some.members at (rw c.shown.ensures at c.in_ok-members-in-Some.ensures) path)

pub returns-clause-path : goal.returns-clause-path
returns-clause-path g c = λ path p.
    let at : slice_get c.args.waits.groups c.args.waits.next ≡ Some c.in-Some.group.now = sym (rw (c.in-Some.is, c.get-these.ensures) at c.get.ensures.value) in
    c.leave.ensures.path ∙ ap up (p ∙ group-path path c.args.waits c.in-Some.group.now at) ∙ up-last path c.in-Some.group.now.0

pub returns-clause-fine : goal.returns-clause-fine
returns-clause-fine g c = λ here fine.
    let at : slice_get c.args.waits.groups c.args.waits.next ≡ Some c.in-Some.group.now = sym (rw (c.in-Some.is, c.get-these.ensures) at c.get.ensures.value) in
    rw (c.behind-next.ensures c.in-Some.ensures.within) (fine.0, fine.1, group-fine c.args.waits c.in-Some.group.now c.shown.result c.in_ok-members-in-Some.members at c.in_ok-members-in-Some.ensures fine.2, fine.3)

pub returns-in-None-clause-turns : goal.returns-in-None-clause-turns
returns-in-None-clause-turns g c = λ here. nothing-due here c.args.waits (sym (rw (c.in-None.is, c.get-these.ensures) at c.get.ensures.value))

pub returns-clause-turns : goal.returns-clause-turns
returns-clause-turns g c = λ here. rw (c.behind-next.ensures c.in-Some.ensures.within) refl
