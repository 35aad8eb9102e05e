use Rattle.std.proofs.Common.{arith, ap, sym, map}
use Rattle.graphql_collected.specs.Requests.{drops_in, fragments_in}
use Rattle.graphql_look_ahead.specs.Selections.{below_collected, selections_of}
use Rattle.graphql_look_ahead.specs.Told.{looked_at, with_request}
use Rattle.graphql_look_ahead.proofs.OpenLemmas.{adds-all, adds-each, adds-none}
use Rattle.graphql_look_ahead.proofs.gathering.gather_selected.Goals as goal

pub fields-init : goal.fields-init
fields-init g c = adds-none (drops_in g.S.ScalarValue.answer c.args.request.now) (fragments_in c.args.request.now) (with_request c.args.request.now) (map looked_at c.args.found.now)

pub fields-preserved : goal.fields-preserved
fields-preserved g c =
    adds-each (drops_in g.S.ScalarValue.answer c.args.request.now) (fragments_in c.args.request.now) (with_request c.args.request.now)
    below_collected c.in-Below.fields.now c.fields.field-index c.field-item.result (map looked_at c.args.found.now) (map looked_at c.fields.found)
    (map looked_at c.gather-in-fields.new.found) (omega arith) c.field-item.is c.fields.invariant (rw (sym c.set_of.ensures) c.in_ok-gather.ensures)

pub returns : goal.returns
returns g c =
    adds-all (drops_in g.S.ScalarValue.answer c.args.request.now) (fragments_in c.args.request.now) (with_request c.args.request.now)
    below_collected c.in-Below.fields.now c.fields.field-index (selections_of c.args.selected) (map looked_at c.args.found.now) (map looked_at c.fields.found)
    (omega arith) (ap selections_of c.in-Below.is) c.fields.invariant
