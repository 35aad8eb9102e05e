use Rattle.std.proofs.Common.{◌≡◌, drop}
use Rattle.graphql_plain_print.specs.Plans.{written_by}
use Rattle.graphql_plain_print.proofs.written.first_written.Given as goal

abbrev pub invariant-loop-place : goal.invariant-loop-place
invariant-loop-place g l = written_by l.plan l.set ≡ written_by l.plan (drop l.place l.set)
