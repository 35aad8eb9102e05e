use Rattle.std.proofs.Common.{sym, ◌∙◌, ap, map, reverse}
use Rattle.graphql_output_values.specs.declared.value.Value.TheVariants as value
use Rattle.graphql_execution_walk.specs.Frames.{item_at, more}
use Rattle.graphql_execution_walk.proofs.FrameLemmas.{item-given}
use Rattle.graphql_execution_walk.proofs.steps.give_list.Goals as goal

pub returns-clause-gives : goal.returns-clause-gives
returns-clause-gives g c = λ here path.
    let f = c.args.waits in
    item-given here f c.args.value c.in_ok-values.values path
    ∙ ap (λ vs. more value.List vs (map (item_at here path f) (reverse f.items))) (sym (rw (c.shown.ensures, c.is_required.ensures) at c.in_ok-values.ensures))
