use Rattle.std.proofs.Common.{◌++◌, sym, ap, subst, OnOk}
use Rattle.std.specs.String.{string_bytes}
use Rattle.graphql_plain_text.specs.PlainTexts.{spaced}
use Rattle.graphql_plain_print.specs.Frames.{Prints, stack_tokens, stack_uses}
use Rattle.graphql_plain_print.specs.Plans.{written_by}
use Rattle.graphql_plain_print.proofs.StepLemmas.{empty-tokens, empty-uses, some-tokens}
use Rattle.graphql_plain_print.proofs.printing.open_some.Goals as goal

pub returns-in-Some-clause-text : goal.returns-in-Some-clause-text
returns-in-Some-clause-text g c =
    subst
    (λ l. OnOk c.open.result (Prints g.S.ScalarValue.answer g.S.ScalarValue.of_bool c.args.plan.now l (string_bytes c.args.text.now) c.args.sets.now (string_bytes c.open.new.text) c.open.new.sets))
    (sym (some-tokens g.S.ScalarValue.answer g.S.ScalarValue.of_bool c.args.plan.now c.args.set.now c.in-Some.field-0.0 (written_by c.args.plan.now c.in-Some.field-0.1.now) c.in-Some.ensures))
    c.open.ensures.text

pub returns-in-None-clause-text : goal.returns-in-None-clause-text
returns-in-None-clause-text g c =
    ap (λ l. string_bytes c.args.text.now ++ spaced (l ++ stack_tokens g.S.ScalarValue.answer g.S.ScalarValue.of_bool c.args.plan.now c.args.sets.now)) (sym (empty-tokens g.S.ScalarValue.answer g.S.ScalarValue.of_bool c.args.plan.now c.args.set.now c.in-None.ensures))

pub returns-in-None-clause-uses : goal.returns-in-None-clause-uses
returns-in-None-clause-uses g c =
    ap (λ l. l ++ stack_uses g.S.ScalarValue.answer g.S.ScalarValue.of_bool c.args.plan.now c.args.sets.now) (sym (empty-uses g.S.ScalarValue.answer g.S.ScalarValue.of_bool c.args.plan.now c.args.set.now c.in-None.ensures))
