use Rattle.std.proofs.Common.{map, take}
use Rattle.std.specs.List.{flat_map}
use Rattle.graphql_collected.specs.Requests.{drops_in, fragments_in}
use Rattle.graphql_look_ahead.specs.Open.{AddsChildren}
use Rattle.graphql_look_ahead.specs.Selections.{below_collected}
use Rattle.graphql_look_ahead.specs.Told.{looked_at, with_request}
use Rattle.graphql_look_ahead.proofs.gathering.gather_selected.Given as goal

abbrev pub invariant-fields : goal.invariant-fields
invariant-fields g l = AddsChildren (drops_in g.S.ScalarValue.answer l.request) (fragments_in l.request) (with_request l.request)
    (flat_map below_collected (take l.field-index l.fields)) (map looked_at l.initial.found) (map looked_at l.found)
