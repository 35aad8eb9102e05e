use Rattle.std.proofs.Common.{◌≡◌, ◌≤◌, ◌+◌, ◌++◌, refl, sym, ◌∙◌, ap, arith, true, false}
use Rattle.std.specs.String.{string_bytes}
use Rattle.graphql_plain_tree.specs.Plain.{size}
use Rattle.graphql_plain_tree.specs.PlainOperations.{variables_used}
use Rattle.graphql_plain_print.specs.declared.printing.Frame.TheVariants as frame
use Rattle.graphql_plain_print.specs.Alone.{alone_uses, below_size, below_turns}
use Rattle.graphql_plain_print.specs.Frames.{stack_size, stack_turns, stack_uses, turns}
use Rattle.graphql_plain_print.specs.Leads.{out_by}
use Rattle.graphql_plain_print.specs.Plans.{set_by, written_by}
use Rattle.graphql_plain_print.proofs.FrameLemmas.{size-push, turns-push, turns-leads, kept-size, out-set}
use Rattle.graphql_plain_print.proofs.NameLemmas.{same-as, same-refl}
use Rattle.graphql_plain_print.proofs.StepLemmas.{kept-names, kept-text, out-names, out-text}
use Rattle.graphql_plain_print.proofs.printing.advance_kept.Goals as goal

pub returns-then-is_out-clause-text : goal.returns-then-is_out-clause-text
returns-then-is_out-clause-text g c =
    out-text g.S.ScalarValue.answer g.S.ScalarValue.of_bool c.args.plan.now (string_bytes c.args.text.now) c.push_frame.new.sets c.args.sets.now c.in-Some.selection (written_by c.args.plan.now c.args.rest.now) (written_by c.args.plan.now c.in-Some.behind.now) (frame.Kept c.in-Some.behind)
    c.in-Some.ensures (sym c.is_out.ensures ∙ c.if-is_out.true) refl c.in_ok-push_frame-in-Some.ensures

pub returns-then-is_out-clause-uses : goal.returns-then-is_out-clause-uses
returns-then-is_out-clause-uses g c =
    let old = c.args.used.now.keys in
    let u = stack_uses g.S.ScalarValue.answer g.S.ScalarValue.of_bool c.args.plan.now c.push_frame.new.sets in
    same-as (old ++ u) (old ++ u) (old ++ (variables_used (set_by g.S.ScalarValue.answer g.S.ScalarValue.of_bool c.args.plan.now false (written_by c.args.plan.now c.args.rest.now)) ++ stack_uses g.S.ScalarValue.answer g.S.ScalarValue.of_bool c.args.plan.now c.args.sets.now)) (same-refl (old ++ u))
    (ap (λ l. old ++ l) (out-names g.S.ScalarValue.answer g.S.ScalarValue.of_bool c.args.plan.now c.push_frame.new.sets c.args.sets.now c.in-Some.selection (written_by c.args.plan.now c.args.rest.now) (written_by c.args.plan.now c.in-Some.behind.now) (frame.Kept c.in-Some.behind)
    c.in-Some.ensures (sym c.is_out.ensures ∙ c.if-is_out.true) refl c.in_ok-push_frame-in-Some.ensures))

pub returns-then-is_out-clause-sized : goal.returns-then-is_out-clause-sized
returns-then-is_out-clause-sized g c =
    let behind = written_by c.args.plan.now c.in-Some.behind.now in
    let out : out_by g.S.ScalarValue.answer c.args.plan.now c.in-Some.selection ≡ true = sym c.is_out.ensures ∙ c.if-is_out.true in
    let s2 : stack_size g.S.ScalarValue.answer g.S.ScalarValue.of_bool c.args.plan.now c.push_frame.new.sets ≡ size (set_by g.S.ScalarValue.answer g.S.ScalarValue.of_bool c.args.plan.now false behind) + stack_size g.S.ScalarValue.answer g.S.ScalarValue.of_bool c.args.plan.now c.args.sets.now = ap (stack_size g.S.ScalarValue.answer g.S.ScalarValue.of_bool c.args.plan.now) c.in_ok-push_frame-in-Some.ensures ∙ size-push g.S.ScalarValue.answer g.S.ScalarValue.of_bool c.args.plan.now c.args.sets.now (frame.Kept c.in-Some.behind) in
    let s3 : size (set_by g.S.ScalarValue.answer g.S.ScalarValue.of_bool c.args.plan.now false (written_by c.args.plan.now c.args.rest.now)) ≡ size (set_by g.S.ScalarValue.answer g.S.ScalarValue.of_bool c.args.plan.now false behind) = ap size (ap (set_by g.S.ScalarValue.answer g.S.ScalarValue.of_bool c.args.plan.now false) c.in-Some.ensures ∙ out-set g.S.ScalarValue.answer g.S.ScalarValue.of_bool c.args.plan.now c.in-Some.selection behind out) in
    (omega (arith, s2, s3), c.requires.room)

pub returns-then-is_out-clause-turns : goal.returns-then-is_out-clause-turns
returns-then-is_out-clause-turns g c =
    let behind = written_by c.args.plan.now c.in-Some.behind.now in
    let t2 : stack_turns c.args.plan.now c.push_frame.new.sets ≡ turns behind + stack_turns c.args.plan.now c.args.sets.now = ap (stack_turns c.args.plan.now) c.in_ok-push_frame-in-Some.ensures ∙ turns-push c.args.plan.now c.args.sets.now (frame.Kept c.in-Some.behind) in
    let t3 : turns (written_by c.args.plan.now c.args.rest.now) ≡ 2 + below_turns c.args.plan.now c.in-Some.selection + turns behind = ap turns c.in-Some.ensures ∙ turns-leads c.args.plan.now c.in-Some.selection behind in
    omega (arith, t2, t3)

pub returns-in_ok-print_selection-in-Some-clause-text : goal.returns-in_ok-print_selection-in-Some-clause-text
returns-in_ok-print_selection-in-Some-clause-text g c =
    kept-text g.S.ScalarValue.answer g.S.ScalarValue.of_bool c.args.plan.now (string_bytes c.args.text.now) (string_bytes c.print_selection.new.text) c.print_selection.new.sets c.push_frame.new.sets c.args.sets.now c.in-Some.selection (written_by c.args.plan.now c.args.rest.now) (written_by c.args.plan.now c.in-Some.behind.now) (frame.Kept c.in-Some.behind)
    c.in-Some.ensures (sym c.is_out.ensures ∙ c.if-is_out.false) refl c.in_ok-push_frame-in-Some.ensures c.in_ok-print_selection-in-Some.ensures.text

pub returns-in_ok-print_selection-in-Some-clause-uses : goal.returns-in_ok-print_selection-in-Some-clause-uses
returns-in_ok-print_selection-in-Some-clause-uses g c =
    let old = c.args.used.now.keys in
    same-as (c.print_selection.new.used.keys ++ stack_uses g.S.ScalarValue.answer g.S.ScalarValue.of_bool c.args.plan.now c.print_selection.new.sets) (old ++ (alone_uses g.S.ScalarValue.answer g.S.ScalarValue.of_bool c.args.plan.now c.in-Some.selection ++ stack_uses g.S.ScalarValue.answer g.S.ScalarValue.of_bool c.args.plan.now c.push_frame.new.sets))
    (old ++ (variables_used (set_by g.S.ScalarValue.answer g.S.ScalarValue.of_bool c.args.plan.now false (written_by c.args.plan.now c.args.rest.now)) ++ stack_uses g.S.ScalarValue.answer g.S.ScalarValue.of_bool c.args.plan.now c.args.sets.now)) c.in_ok-print_selection-in-Some.ensures.uses
    (ap (λ l. old ++ l) (kept-names g.S.ScalarValue.answer g.S.ScalarValue.of_bool c.args.plan.now c.push_frame.new.sets c.args.sets.now c.in-Some.selection (written_by c.args.plan.now c.args.rest.now) (written_by c.args.plan.now c.in-Some.behind.now) (frame.Kept c.in-Some.behind) c.in-Some.ensures (sym c.is_out.ensures ∙ c.if-is_out.false) refl c.in_ok-push_frame-in-Some.ensures))

pub returns-in_ok-print_selection-in-Some-clause-sized : goal.returns-in_ok-print_selection-in-Some-clause-sized
returns-in_ok-print_selection-in-Some-clause-sized g c =
    let behind = written_by c.args.plan.now c.in-Some.behind.now in
    let out : out_by g.S.ScalarValue.answer c.args.plan.now c.in-Some.selection ≡ false = sym c.is_out.ensures ∙ c.if-is_out.false in
    let s1 : stack_size g.S.ScalarValue.answer g.S.ScalarValue.of_bool c.args.plan.now c.print_selection.new.sets ≡ below_size g.S.ScalarValue.answer g.S.ScalarValue.of_bool c.args.plan.now c.in-Some.selection + stack_size g.S.ScalarValue.answer g.S.ScalarValue.of_bool c.args.plan.now c.push_frame.new.sets = c.in_ok-print_selection-in-Some.ensures.sized in
    let s2 : stack_size g.S.ScalarValue.answer g.S.ScalarValue.of_bool c.args.plan.now c.push_frame.new.sets ≡ size (set_by g.S.ScalarValue.answer g.S.ScalarValue.of_bool c.args.plan.now false behind) + stack_size g.S.ScalarValue.answer g.S.ScalarValue.of_bool c.args.plan.now c.args.sets.now = ap (stack_size g.S.ScalarValue.answer g.S.ScalarValue.of_bool c.args.plan.now) c.in_ok-push_frame-in-Some.ensures ∙ size-push g.S.ScalarValue.answer g.S.ScalarValue.of_bool c.args.plan.now c.args.sets.now (frame.Kept c.in-Some.behind) in
    let s3 : size (set_by g.S.ScalarValue.answer g.S.ScalarValue.of_bool c.args.plan.now false (written_by c.args.plan.now c.args.rest.now)) ≡ 1 + below_size g.S.ScalarValue.answer g.S.ScalarValue.of_bool c.args.plan.now c.in-Some.selection + size (set_by g.S.ScalarValue.answer g.S.ScalarValue.of_bool c.args.plan.now false behind) = ap (λ z. size (set_by g.S.ScalarValue.answer g.S.ScalarValue.of_bool c.args.plan.now false z)) c.in-Some.ensures ∙ kept-size g.S.ScalarValue.answer g.S.ScalarValue.of_bool c.args.plan.now c.in-Some.selection behind out in
    (omega (arith, s1, s2, s3), omega arith)

pub returns-in_ok-print_selection-in-Some-clause-turns : goal.returns-in_ok-print_selection-in-Some-clause-turns
returns-in_ok-print_selection-in-Some-clause-turns g c =
    let behind = written_by c.args.plan.now c.in-Some.behind.now in
    let t1 : stack_turns c.args.plan.now c.print_selection.new.sets ≤ below_turns c.args.plan.now c.in-Some.selection + stack_turns c.args.plan.now c.push_frame.new.sets = c.in_ok-print_selection-in-Some.ensures.turns in
    let t2 : stack_turns c.args.plan.now c.push_frame.new.sets ≡ turns behind + stack_turns c.args.plan.now c.args.sets.now = ap (stack_turns c.args.plan.now) c.in_ok-push_frame-in-Some.ensures ∙ turns-push c.args.plan.now c.args.sets.now (frame.Kept c.in-Some.behind) in
    let t3 : turns (written_by c.args.plan.now c.args.rest.now) ≡ 2 + below_turns c.args.plan.now c.in-Some.selection + turns behind = ap turns c.in-Some.ensures ∙ turns-leads c.args.plan.now c.in-Some.selection behind in
    omega (arith, t1, t2, t3)
