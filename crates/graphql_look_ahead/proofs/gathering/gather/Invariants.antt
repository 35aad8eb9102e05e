use Rattle.std.proofs.Common.{map}
use Rattle.graphql_collected.specs.Requests.{drops_in, fragments_in}
use Rattle.graphql_look_ahead.specs.Open.{Steps, opened, turns_open}
use Rattle.graphql_look_ahead.specs.Told.{looked_at, with_request}
use Rattle.graphql_look_ahead.proofs.OpenLemmas.{whole}
use Rattle.graphql_look_ahead.proofs.gathering.gather.Given as goal

abbrev pub invariant-open : goal.invariant-open
invariant-open g l = Steps (drops_in g.S.ScalarValue.answer l.request) (fragments_in l.request) (with_request l.request)
    (whole l.fn.set) (map looked_at l.initial.found) (opened l.open) (map looked_at l.found)

abbrev pub decreases-open : goal.decreases-open
decreases-open g l = turns_open (fragments_in l.request) (opened l.open)
