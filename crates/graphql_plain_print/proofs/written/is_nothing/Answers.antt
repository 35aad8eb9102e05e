use Rattle.std.proofs.Common.{◌&&◌, sym, ◌∙◌, ap}
use Rattle.graphql_plain_print.specs.Plans.{all_out_by, written_by}
use Rattle.graphql_plain_print.proofs.WrittenLemmas.{all-out}
use Rattle.graphql_plain_print.proofs.written.is_nothing.Goals as goal

pub returns-in-None : goal.returns-in-None
returns-in-None g c = λ xs. ap (all_out_by g.S.ScalarValue.answer c.args.plan.now) (c.in-None.ensures xs)

pub returns-in-Some : goal.returns-in-Some
returns-in-Some g c = λ xs.
    ap (all_out_by g.S.ScalarValue.answer c.args.plan.now) (c.in-Some.ensures xs) ∙ all-out c.args.plan.now g.S.ScalarValue.answer c.in-Some.written (written_by c.args.plan.now xs)
    ∙ ap (λ q. q && all_out_by g.S.ScalarValue.answer c.args.plan.now (written_by c.args.plan.now xs)) (sym c.is_out.ensures)
