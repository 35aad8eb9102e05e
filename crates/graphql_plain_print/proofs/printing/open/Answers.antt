use Rattle.std.proofs.Common.{◌+◌, ◌++◌, ◌∙◌, ap}
use Rattle.graphql_plain_tree.specs.Plain.{size}
use Rattle.graphql_plain_tree.specs.PlainOperations.{variables_used}
use Rattle.graphql_plain_print.specs.Frames.{stack_size, stack_turns, stack_uses}
use Rattle.graphql_plain_print.specs.Plans.{plain_by}
use Rattle.graphql_plain_print.proofs.FrameLemmas.{size-push, turns-push, uses-push}
use Rattle.graphql_plain_print.proofs.StepLemmas.{open-text}
use Rattle.graphql_plain_print.proofs.printing.open.Goals as goal

pub returns-clause-text : goal.returns-clause-text
returns-clause-text g c =
    open-text g.S.ScalarValue.answer g.S.ScalarValue.of_bool c.args.plan.now _ _ c.push_frame.new.sets c.args.sets.now c.opened.result (plain_by g.S.ScalarValue.answer g.S.ScalarValue.of_bool c.args.plan.now c.args.set.now) c.in_ok-push_word.ensures c.in_ok-push_frame.ensures c.opened.ensures.tree

pub returns-clause-uses : goal.returns-clause-uses
returns-clause-uses g c =
    ap (stack_uses g.S.ScalarValue.answer g.S.ScalarValue.of_bool c.args.plan.now) c.in_ok-push_frame.ensures ∙ uses-push g.S.ScalarValue.answer g.S.ScalarValue.of_bool c.args.plan.now c.args.sets.now c.opened.result
    ∙ ap (λ z. variables_used z ++ stack_uses g.S.ScalarValue.answer g.S.ScalarValue.of_bool c.args.plan.now c.args.sets.now) c.opened.ensures.tree

pub returns-clause-sized : goal.returns-clause-sized
returns-clause-sized g c =
    ap (stack_size g.S.ScalarValue.answer g.S.ScalarValue.of_bool c.args.plan.now) c.in_ok-push_frame.ensures ∙ size-push g.S.ScalarValue.answer g.S.ScalarValue.of_bool c.args.plan.now c.args.sets.now c.opened.result
    ∙ ap (λ z. size z + stack_size g.S.ScalarValue.answer g.S.ScalarValue.of_bool c.args.plan.now c.args.sets.now) c.opened.ensures.tree

pub returns-clause-turns : goal.returns-clause-turns
returns-clause-turns g c =
    ap (stack_turns c.args.plan.now) c.in_ok-push_frame.ensures ∙ turns-push c.args.plan.now c.args.sets.now c.opened.result
    ∙ ap (λ n. n + stack_turns c.args.plan.now c.args.sets.now) c.opened.ensures.turns
