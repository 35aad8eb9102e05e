use Rattle.std.proofs.Common.{◌+◌, ◌-◌, ◌≤◌, sym, ◌∙◌, ap, arith, length, drop}
use Rattle.std.proofs.lemmas.List.{take_all, drop_all, length-drop}
use Rattle.graphql_written_out.proofs.Layers.{written-nil}
use Rattle.graphql_plain_print.specs.Plans.{fragments_by, written_by}
use Rattle.graphql_plain_print.specs.Leads.{leads}
use Rattle.graphql_plain_print.proofs.WrittenLemmas.{drop-first}
use Rattle.graphql_plain_print.proofs.written.first_written.Goals as goal

pub returns-in-Some : goal.returns-in-Some
returns-in-Some g c =
    let k = c.loop-place.place in
    let rest = drop (k + 1) c.args.set.now in
    let short : length rest ≤ length c.args.set.now - (k + 1) = omega (arith, length-drop (k + 1) c.args.set.now) in
    c.loop-place.invariant ∙ ap (written_by c.args.plan.now) (drop-first c.args.set.now k c.index-set-place.result c.loop-place-test.true c.index-set-place.is)
    ∙ c.in-Some.ensures rest ∙ ap (λ xs. leads c.args.plan.now c.in-Some.written (written_by c.args.plan.now xs)) (sym (take_all (length c.args.set.now - (k + 1)) rest short))

pub loop-place-preserved : goal.loop-place-preserved
loop-place-preserved g c =
    let k = c.loop-place.place in
    c.loop-place.invariant ∙ ap (written_by c.args.plan.now) (drop-first c.args.set.now k c.index-set-place.result c.loop-place-test.true c.index-set-place.is) ∙ c.in_default.ensures (drop (k + 1) c.args.set.now)

pub returns : goal.returns
returns g c = c.loop-place.invariant ∙ ap (written_by c.args.plan.now) (drop_all c.loop-place.place c.args.set.now c.loop-place-test.false) ∙ written-nil (fragments_by c.args.plan.now)
