use Rattle.std.proofs.Common.{sym, ◌∙◌, ap}
use Rattle.graphql_plain_print.specs.Plans.{set_by, written_by}
use Rattle.graphql_plain_print.proofs.printing.opened.Goals as goal

pub returns-then-all_out-clause-tree : goal.returns-then-all_out-clause-tree
returns-then-all_out-clause-tree g c =
    ap (λ all. set_by g.S.ScalarValue.answer g.S.ScalarValue.of_bool c.args.plan.now all (written_by c.args.plan.now c.args.set.now))
    (sym c.if-all_out.true ∙ c.all_out.ensures)
