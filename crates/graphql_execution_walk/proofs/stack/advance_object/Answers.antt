use Rattle.std.proofs.Common.{arith, refl, sym, ◌∙◌, ap, subst, inl, ◌≡◌, ◌++◌, ◌∷◌, [], drop, slice_get, Some, None}
use Rattle.graphql_collect.specs.Grouped.{all_found}
use Rattle.graphql_semantics.specs.Evaluation.{evaluate, group}
use Rattle.graphql_semantics.specs.Outcomes.{show_place}
use Rattle.graphql_execution_walk.specs.declared.frames.Frame.TheVariants as frame
use Rattle.graphql_execution_walk.specs.Evaluations.{evaluation_at}
use Rattle.graphql_execution_walk.specs.Frames.{TellsFirst, comes_to, path_of, rest, shows}
use Rattle.graphql_execution_walk.specs.Sets.{HasKey}
use Rattle.graphql_execution_walk.proofs.FrameLemmas.{awaits, distinct-end, drop-end, fine-last, group-path, group-starts, leads-same, object-ends, step-in_place, step-pushed}
use Rattle.graphql_execution_walk.proofs.EngineParts.{engine-concrete, if-prepared}
use Rattle.graphql_execution_walk.proofs.KeyLemmas.{all-at}
use Rattle.graphql_execution_walk.proofs.PreparedLemmas.{known-here}
use Rattle.graphql_execution_walk.proofs.TurnLemmas.{group-due, waiting-last}
use Rattle.graphql_execution_walk.proofs.stack.advance_object.Goals as goal

pub object_of-requires : goal.object_of-requires
object_of-requires g c =
    let f = c.args.object_frame in
    distinct-end f.members (drop f.next f.groups) (drop-end f.groups f.next (sym (rw (c.in-None.is, c.get.ensures) at c.get-2.ensures.value))) c.requires.fine.0.2

-- the object's type is that of its node, and what is known at the group's place is known of the group
pub start-requires : goal.start-requires
start-requires g c =
    let rq = c.args.executor.now.request.now in
    let ty = g.R.GraphQLValue.type_of c.args.resolver.now c.args.executor.now.context.now in
    let an = g.R.GraphQLValue.answer c.args.resolver.now c.args.executor.now.context.now in
    let f = c.args.object_frame in
    let x = c.in-Some.group.now in
    let here : slice_get f.groups f.next ≡ Some x = sym (rw (c.in-Some.is, c.get.ensures) at c.get-2.ensures.value) in
    let typed = (c.as_str.ensures ∙ c.requires.fine.0.0 ∙ ap (λ h. h f.node) (engine-concrete g.S.ScalarValue.of_text g.S.ScalarValue.of_bool g.S.ScalarValue.answer rq ty an)) in (
      omega arith,
      (
        c.requires.settled,
        (
          inl typed,
          (
            all-at HasKey f.groups f.next x c.requires.fine.0.1 here,
            rw c.as_str.ensures
                (known-here rq f.object f.groups f.prepared f.next x
                (if-prepared g.S.ScalarValue.of_text g.S.ScalarValue.of_bool g.S.ScalarValue.answer rq ty an f.object f.groups f.prepared c.requires.fine.0.3)
                here c.prepared_at-prepared_field.result c.prepared_at-prepared_field.ensures),
          ),
        ),
      ),
    )

pub returns-in-None-clause-steps : goal.returns-in-None-clause-steps
returns-in-None-clause-steps g c = λ path at.
    let here = evaluation_at g.S.ScalarValue.of_text g.S.ScalarValue.of_bool g.S.ScalarValue.answer (g.R.GraphQLValue.root_node c.args.resolver.now) (g.R.GraphQLValue.type_of c.args.resolver.now) (g.R.GraphQLValue.answer c.args.resolver.now) c.args.executor.now in
    let old = c.args.report.now in
    let f = c.args.object_frame in
    let fs = c.args.waiting.now in
    let none : slice_get f.groups f.next ≡ None = sym (rw (c.in-None.is, c.get.ensures) at c.get-2.ensures.value) in
    step-in_place here path fs (λ q. rest here q (frame.Object f)) (λ q. shows c.object_of.result) old old at
    (leads-same (rest here (path_of path fs) (frame.Object f)) (shows c.object_of.result) old old (object-ends here (path_of path fs) f none ∙ ap shows (sym c.object_of.ensures)) refl)

pub returns-clause-steps : goal.returns-clause-steps
returns-clause-steps g c = λ path at.
    let here = evaluation_at g.S.ScalarValue.of_text g.S.ScalarValue.of_bool g.S.ScalarValue.answer (g.R.GraphQLValue.root_node c.args.resolver.now) (g.R.GraphQLValue.type_of c.args.resolver.now) (g.R.GraphQLValue.answer c.args.resolver.now) c.args.executor.now in
    let old = c.args.report.now in
    let f = c.args.object_frame in
    let fs = c.args.waiting.now in
    let x = c.in-Some.group.now in
    let held : slice_get f.groups f.next ≡ Some x = sym (rw (c.in-Some.is, c.get.ensures) at c.get-2.ensures.value) in
    let started = c.in_ok-started-in-Some.started in
    let new = c.start.new.report in
    let p = path_of path fs in
    let leads = subst (λ q. TellsFirst (group here.engine (evaluate here.engine) q f.object f.node x.0 (all_found here.fragments x.1)) old (show_place started.is_needed (comes_to here started.begun (q ++ x.0 ∷ []))) new) at
    (rw c.as_str.ensures at c.in_ok-started-in-Some.ensures.leads) in
    rw c.in_ok-wait.ensures
    (step-pushed here path fs (frame.Object (awaits here f started.is_needed)) (λ q. rest here q (frame.Object f)) (comes_to here started.begun) old new
    (c.in_ok-started-in-Some.ensures.path ∙ ap (λ q. q ++ x.0 ∷ []) at ∙ sym (group-path p (awaits here f started.is_needed) x held))
    (record { told = leads.told; is = group-starts here p f x started.is_needed leads.told (comes_to here started.begun) held leads.is; errors = leads.errors }))

pub returns-clause-fine : goal.returns-clause-fine
returns-clause-fine g c =
    let here = evaluation_at g.S.ScalarValue.of_text g.S.ScalarValue.of_bool g.S.ScalarValue.answer (g.R.GraphQLValue.root_node c.args.resolver.now) (g.R.GraphQLValue.type_of c.args.resolver.now) (g.R.GraphQLValue.answer c.args.resolver.now) c.args.executor.now in
    let f = c.args.object_frame in
    rw c.in_ok-wait.ensures (fine-last here c.args.waiting.now (frame.Object (record { node = f.node; object = f.object; groups = f.groups; prepared = f.prepared; next = f.next; is_needed = c.in_ok-started-in-Some.started.is_needed; members = f.members })) c.requires.fine.1 c.requires.fine.0, c.in_ok-started-in-Some.ensures.fine)

pub returns-in-None-clause-turns : goal.returns-in-None-clause-turns
returns-in-None-clause-turns g c = omega arith

pub returns-clause-turns : goal.returns-clause-turns
returns-clause-turns g c =
    let here = evaluation_at g.S.ScalarValue.of_text g.S.ScalarValue.of_bool g.S.ScalarValue.answer (g.R.GraphQLValue.root_node c.args.resolver.now) (g.R.GraphQLValue.type_of c.args.resolver.now) (g.R.GraphQLValue.answer c.args.resolver.now) c.args.executor.now in
    let f = c.args.object_frame in
    let fs = c.args.waiting.now in
    let x = c.in-Some.group.now in
    let held : slice_get f.groups f.next ≡ Some x = sym (rw (c.in-Some.is, c.get.ensures) at c.get-2.ensures.value) in
    let started = c.in_ok-started-in-Some.started in
    let begun_so = rw c.as_str.ensures at c.in_ok-started-in-Some.ensures.turns in
    let due = group-due here f x held in
    let last = waiting-last here fs (frame.Object (awaits here f started.is_needed)) in
    rw c.in_ok-wait.ensures (omega (arith, begun_so, due, last))
