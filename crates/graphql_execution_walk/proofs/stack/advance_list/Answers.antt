use Rattle.std.proofs.Common.{arith, refl, sym, ◌∙◌, ap, subst, reverse, Ok}
use Rattle.graphql_execution_walk.specs.declared.frames.Frame.TheVariants as frame
use Rattle.graphql_execution_walk.specs.Begins.{outcome_at}
use Rattle.graphql_execution_walk.specs.Evaluations.{evaluation_at}
use Rattle.graphql_execution_walk.specs.Frames.{TellsFirst, comes_to, known_of, learns, path_of, rest, shows}
use Rattle.graphql_execution_walk.specs.Sets.{kept_sets}
use Rattle.graphql_execution_walk.proofs.BeginLemmas.{told-begins}
use Rattle.graphql_execution_walk.proofs.FrameLemmas.{fine-last, item-starts, keeps, known-taught, leads-same, list-ends, step-in_place, step-pushed}
use Rattle.graphql_execution_walk.proofs.TurnLemmas.{item-due, waiting-last}
use Rattle.graphql_execution_walk.proofs.stack.advance_list.Goals as goal

pub returns-in_default-clause-steps : goal.returns-in_default-clause-steps
returns-in_default-clause-steps g c = λ path at.
    let here = evaluation_at g.S.ScalarValue.of_text g.S.ScalarValue.of_bool g.S.ScalarValue.answer (g.R.GraphQLValue.root_node c.args.resolver.now) (g.R.GraphQLValue.type_of c.args.resolver.now) (g.R.GraphQLValue.answer c.args.resolver.now) c.args.executor.now in
    let old = c.args.report.now in
    let f = c.args.list_frame in
    let fs = c.args.waiting.now in
    let none = rw c.in_default.is at c.pop.ensures in
    step-in_place here path fs (λ q. rest here q (frame.List f)) (λ q. shows c.list_of.result) old old at
    (leads-same (rest here (path_of path fs) (frame.List f)) (shows c.list_of.result) old old (list-ends here (path_of path fs) f none.0 ∙ ap shows (sym c.list_of.ensures)) refl)

pub returns-clause-steps : goal.returns-clause-steps
returns-clause-steps g c = λ path at.
    let here = evaluation_at g.S.ScalarValue.of_text g.S.ScalarValue.of_bool g.S.ScalarValue.answer (g.R.GraphQLValue.root_node c.args.resolver.now) (g.R.GraphQLValue.type_of c.args.resolver.now) (g.R.GraphQLValue.answer c.args.resolver.now) c.args.executor.now in
    let old = c.args.report.now in
    let f = c.args.list_frame in
    let fs = c.args.waiting.now in
    let x = c.in-Some.item in
    let left = c.pop.new.self in
    let popped = rw c.in-Some.is at c.pop.ensures in
    let begun = c.in_ok-begun.begun in
    let new = c.begun_or_told.new.report in
    let p = path_of path fs in
    let told = told-begins here (kept_sets here.fragments f.selected) f.name f.location (reverse f.wraps.now) (Ok c.in-Some.item) c.begin-begins.result c.args.report.now c.in_ok-begun.begun c.begun_or_told.new.report (rw (c.lent.ensures here.fragments) at c.begin-begins.ensures) c.in_ok-begun.ensures in
    let leads = subst (λ q. TellsFirst (outcome_at here.engine (kept_sets here.fragments f.selected) f.name f.location (reverse f.wraps.now) (Ok x) q) old (comes_to here begun q) new) at told.leads in
    rw c.in_ok-wait_for_item.ensures.2
    (step-pushed here path fs (frame.List (learns (keeps here f left) c.in_ok-wait_for_item.ensures.0)) (λ q. rest here q (frame.List f)) (comes_to here begun) old new (told.path ∙ at)
    (item-starts here p f left x (comes_to here begun p) old new popped leads))

-- the item is at the list's type, and the list knows what it knows
pub begin-begins-requires-clause-spot : goal.begin-begins-requires-clause-spot
begin-begins-requires-clause-spot g c =
    let here = evaluation_at g.S.ScalarValue.of_text g.S.ScalarValue.of_bool g.S.ScalarValue.answer (g.R.GraphQLValue.root_node c.args.resolver.now) (g.R.GraphQLValue.type_of c.args.resolver.now) (g.R.GraphQLValue.answer c.args.resolver.now) c.args.executor.now in
    let f = c.args.list_frame in
    record { leaf = tt; known = rw (c.lent.ensures here.fragments) c.requires.fine.0 }

pub returns-clause-fine : goal.returns-clause-fine
returns-clause-fine g c =
    let here = evaluation_at g.S.ScalarValue.of_text g.S.ScalarValue.of_bool g.S.ScalarValue.answer (g.R.GraphQLValue.root_node c.args.resolver.now) (g.R.GraphQLValue.type_of c.args.resolver.now) (g.R.GraphQLValue.answer c.args.resolver.now) c.args.executor.now in
    let f = c.args.list_frame in
    let kept = learns (keeps here f c.pop.new.self) c.in_ok-wait_for_item.ensures.0 in
    let told = told-begins here (kept_sets here.fragments f.selected) f.name f.location (reverse f.wraps.now) (Ok c.in-Some.item) c.begin-begins.result c.args.report.now c.in_ok-begun.begun c.begun_or_told.new.report (rw (c.lent.ensures here.fragments) at c.begin-begins.ensures) c.in_ok-begun.ensures in
    let fine = known-taught here f.name (kept_sets here.fragments f.selected) f.known c.in_ok-wait_for_item.ensures.0 (known_of c.in_ok-begun.begun) c.in_ok-wait_for_item.ensures.1 told.known c.requires.fine.0 in
    rw c.in_ok-wait_for_item.ensures.2 (fine-last here c.args.waiting.now (frame.List kept) c.requires.fine.1 fine, told.fine)

pub returns-in_default-clause-turns : goal.returns-in_default-clause-turns
returns-in_default-clause-turns g c = omega arith

pub returns-clause-turns : goal.returns-clause-turns
returns-clause-turns g c =
    let here = evaluation_at g.S.ScalarValue.of_text g.S.ScalarValue.of_bool g.S.ScalarValue.answer (g.R.GraphQLValue.root_node c.args.resolver.now) (g.R.GraphQLValue.type_of c.args.resolver.now) (g.R.GraphQLValue.answer c.args.resolver.now) c.args.executor.now in
    let f = c.args.list_frame in
    let fs = c.args.waiting.now in
    let left = c.pop.new.self in
    let popped = rw c.in-Some.is at c.pop.ensures in
    let told = told-begins here (kept_sets here.fragments f.selected) f.name f.location (reverse f.wraps.now) (Ok c.in-Some.item) c.begin-begins.result c.args.report.now c.in_ok-begun.begun c.begun_or_told.new.report (rw (c.lent.ensures here.fragments) at c.begin-begins.ensures) c.in_ok-begun.ensures in
    let due = item-due here f left c.in-Some.item popped in
    let last = waiting-last here fs (frame.List (learns (keeps here f left) c.in_ok-wait_for_item.ensures.0)) in
    rw c.in_ok-wait_for_item.ensures.2 (omega (arith, told.turns, due, last))
