use Rattle.std.proofs.Common.{◌+◌, ◌&&◌, sym, ◌∙◌, ap, drop}
use Rattle.std.proofs.lemmas.List.{drop_all}
use Rattle.graphql_written_out.proofs.Layers.{written-nil}
use Rattle.graphql_plain_print.specs.Plans.{all_out_by, fragments_by, written_by}
use Rattle.graphql_plain_print.proofs.WrittenLemmas.{drop-first}
use Rattle.graphql_plain_print.proofs.written.all_out.Goals as goal

pub returns-then-not-is_nothing : goal.returns-then-not-is_nothing
returns-then-not-is_nothing g c =
    let k = c.loop-selection.selection-index in
    let rest = drop (k + 1) c.args.set.now in
    sym (c.loop-selection.invariant ∙ ap (λ l. all_out_by g.S.ScalarValue.answer c.args.plan.now (written_by c.args.plan.now l)) (drop-first c.args.set.now k c.selection-item.result c.loop-selection-test.true c.selection-item.is)
    ∙ c.is_nothing.ensures rest ∙ ap (λ q. q && all_out_by g.S.ScalarValue.answer c.args.plan.now (written_by c.args.plan.now rest)) c.if-not-is_nothing.true)

pub loop-selection-preserved : goal.loop-selection-preserved
loop-selection-preserved g c =
    let k = c.loop-selection.selection-index in
    let rest = drop (k + 1) c.args.set.now in
    c.loop-selection.invariant ∙ ap (λ l. all_out_by g.S.ScalarValue.answer c.args.plan.now (written_by c.args.plan.now l)) (drop-first c.args.set.now k c.selection-item.result c.loop-selection-test.true c.selection-item.is)
    ∙ c.is_nothing.ensures rest ∙ ap (λ q. q && all_out_by g.S.ScalarValue.answer c.args.plan.now (written_by c.args.plan.now rest)) c.if-not-is_nothing.false

pub returns : goal.returns
returns g c =
    sym (c.loop-selection.invariant ∙ ap (λ l. all_out_by g.S.ScalarValue.answer c.args.plan.now (written_by c.args.plan.now l)) (drop_all c.loop-selection.selection-index c.args.set.now c.loop-selection-test.false)
    ∙ ap (all_out_by g.S.ScalarValue.answer c.args.plan.now) (written-nil (fragments_by c.args.plan.now)))
