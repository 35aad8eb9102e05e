use Rattle.std.proofs.Common.{◌≡◌, drop}
use Rattle.graphql_plain_print.specs.Plans.{all_out_by, written_by}
use Rattle.graphql_plain_print.proofs.written.all_out.Given as goal

abbrev pub invariant-loop-selection : goal.invariant-loop-selection
invariant-loop-selection g l =
    all_out_by g.S.ScalarValue.answer l.plan (written_by l.plan l.set) ≡ all_out_by g.S.ScalarValue.answer l.plan (written_by l.plan (drop l.selection-index l.set))
