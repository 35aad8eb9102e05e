use Rattle.std.proofs.Common.{◌≡◌, ◌≤◌, ◌+◌, ◌++◌, refl, ◌∙◌, ap, arith, true}
use Rattle.std.specs.String.{string_bytes}
use Rattle.graphql_plain_tree.specs.Plain.{size}
use Rattle.graphql_plain_tree.specs.PlainOperations.{variables_used}
use Rattle.graphql_plain_print.specs.declared.printing.Frame.TheVariants as frame
use Rattle.graphql_plain_print.specs.Alone.{alone_uses, below_size, below_turns}
use Rattle.graphql_plain_print.specs.Frames.{stack_size, stack_turns, stack_uses, turns}
use Rattle.graphql_plain_print.specs.Plans.{set_by, written_by}
use Rattle.graphql_plain_print.proofs.FrameLemmas.{size-push, turns-push, turns-leads, first-size}
use Rattle.graphql_plain_print.proofs.NameLemmas.{same-as}
use Rattle.graphql_plain_print.proofs.StepLemmas.{first-names, first-text}
use Rattle.graphql_plain_print.proofs.printing.advance_first.Goals as goal

pub returns-in_ok-print_selection-in-Some-clause-text : goal.returns-in_ok-print_selection-in-Some-clause-text
returns-in_ok-print_selection-in-Some-clause-text g c =
    first-text g.S.ScalarValue.answer g.S.ScalarValue.of_bool c.args.plan.now (string_bytes c.args.text.now) (string_bytes c.print_selection.new.text) c.print_selection.new.sets c.push_frame.new.sets c.args.sets.now c.in-Some.selection (written_by c.args.plan.now c.args.rest.now) (written_by c.args.plan.now c.in-Some.field-0-1.now) frame.End
    c.in-Some.ensures refl c.in_ok-push_frame-in-Some.ensures c.in_ok-print_selection-in-Some.ensures.text

pub returns-in_ok-print_selection-in-Some-clause-uses : goal.returns-in_ok-print_selection-in-Some-clause-uses
returns-in_ok-print_selection-in-Some-clause-uses g c =
    let old = c.args.used.now.keys in
    same-as (c.print_selection.new.used.keys ++ stack_uses g.S.ScalarValue.answer g.S.ScalarValue.of_bool c.args.plan.now c.print_selection.new.sets) (old ++ (alone_uses g.S.ScalarValue.answer g.S.ScalarValue.of_bool c.args.plan.now c.in-Some.selection ++ stack_uses g.S.ScalarValue.answer g.S.ScalarValue.of_bool c.args.plan.now c.push_frame.new.sets))
    (old ++ (variables_used (set_by g.S.ScalarValue.answer g.S.ScalarValue.of_bool c.args.plan.now true (written_by c.args.plan.now c.args.rest.now)) ++ stack_uses g.S.ScalarValue.answer g.S.ScalarValue.of_bool c.args.plan.now c.args.sets.now)) c.in_ok-print_selection-in-Some.ensures.uses
    (ap (λ l. old ++ l) (first-names g.S.ScalarValue.answer g.S.ScalarValue.of_bool c.args.plan.now c.push_frame.new.sets c.args.sets.now c.in-Some.selection (written_by c.args.plan.now c.args.rest.now) (written_by c.args.plan.now c.in-Some.field-0-1.now) frame.End c.in-Some.ensures refl c.in_ok-push_frame-in-Some.ensures))

pub returns-in_ok-print_selection-in-Some-clause-sized : goal.returns-in_ok-print_selection-in-Some-clause-sized
returns-in_ok-print_selection-in-Some-clause-sized g c =
    let behind = written_by c.args.plan.now c.in-Some.field-0-1.now in
    let s1 : stack_size g.S.ScalarValue.answer g.S.ScalarValue.of_bool c.args.plan.now c.print_selection.new.sets ≡ below_size g.S.ScalarValue.answer g.S.ScalarValue.of_bool c.args.plan.now c.in-Some.selection + stack_size g.S.ScalarValue.answer g.S.ScalarValue.of_bool c.args.plan.now c.push_frame.new.sets = c.in_ok-print_selection-in-Some.ensures.sized in
    let s2 : stack_size g.S.ScalarValue.answer g.S.ScalarValue.of_bool c.args.plan.now c.push_frame.new.sets ≡ 0 + stack_size g.S.ScalarValue.answer g.S.ScalarValue.of_bool c.args.plan.now c.args.sets.now = ap (stack_size g.S.ScalarValue.answer g.S.ScalarValue.of_bool c.args.plan.now) c.in_ok-push_frame-in-Some.ensures ∙ size-push g.S.ScalarValue.answer g.S.ScalarValue.of_bool c.args.plan.now c.args.sets.now frame.End in
    let s3 : size (set_by g.S.ScalarValue.answer g.S.ScalarValue.of_bool c.args.plan.now true (written_by c.args.plan.now c.args.rest.now)) ≡ 1 + below_size g.S.ScalarValue.answer g.S.ScalarValue.of_bool c.args.plan.now c.in-Some.selection = ap (λ z. size (set_by g.S.ScalarValue.answer g.S.ScalarValue.of_bool c.args.plan.now true z)) c.in-Some.ensures ∙ first-size g.S.ScalarValue.answer g.S.ScalarValue.of_bool c.args.plan.now c.in-Some.selection behind in
    (omega (arith, s1, s2, s3), omega arith)

pub returns-in_ok-print_selection-in-Some-clause-turns : goal.returns-in_ok-print_selection-in-Some-clause-turns
returns-in_ok-print_selection-in-Some-clause-turns g c =
    let behind = written_by c.args.plan.now c.in-Some.field-0-1.now in
    let t1 : stack_turns c.args.plan.now c.print_selection.new.sets ≤ below_turns c.args.plan.now c.in-Some.selection + stack_turns c.args.plan.now c.push_frame.new.sets = c.in_ok-print_selection-in-Some.ensures.turns in
    let t2 : stack_turns c.args.plan.now c.push_frame.new.sets ≡ 1 + stack_turns c.args.plan.now c.args.sets.now = ap (stack_turns c.args.plan.now) c.in_ok-push_frame-in-Some.ensures ∙ turns-push c.args.plan.now c.args.sets.now frame.End in
    let t3 : turns (written_by c.args.plan.now c.args.rest.now) ≡ 2 + below_turns c.args.plan.now c.in-Some.selection + turns behind = ap turns c.in-Some.ensures ∙ turns-leads c.args.plan.now c.in-Some.selection behind in
    omega (arith, t1, t2, t3)
