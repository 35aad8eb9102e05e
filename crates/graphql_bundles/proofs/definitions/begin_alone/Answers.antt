use Rattle.std.proofs.lemmas.Result.{on_ok_weaker}
use Rattle.graphql_merging.specs.Tables.{pieces_of}
use Rattle.graphql_bundles.specs.Going.{stage_of}
use Rattle.graphql_bundles.proofs.HeldLemmas.{goes-alone}
use Rattle.graphql_bundles.proofs.definitions.begin_alone.Goals as goal

pub returns : goal.returns
returns g c =
    on_ok_weaker c.begin_sets.result
    (λ goes fragments. goes-alone (pieces_of {C = g.row.C.Denot} fragments c.args.table.now) c.args.definition c.args.held.now.keys c.add_numbers.new.sets.keys
    (stage_of c.args.progress.now) (stage_of c.begin_sets.new.progress) c.in_ok-add_numbers.ensures (goes fragments))
    c.begin_sets.ensures
