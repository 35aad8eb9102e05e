use Rattle.std.proofs.Common.{refl, false}
use Rattle.std.specs.List.{Contains}
use Rattle.graphql_merging.specs.Tables.{pieces_of}
use Rattle.graphql_bundles.specs.Bundles.{IsGathered}
use Rattle.graphql_bundles.specs.Going.{stage_of}
use Rattle.graphql_bundles.specs.Steps.{HoldsSets}
use Rattle.graphql_bundles.proofs.GoesLemmas.{goes-sets, goes-bound, on-ok-both}
use Rattle.graphql_bundles.proofs.parts.begin_sets.Goals as goal

pub returns-in-Ok : goal.returns-in-Ok
returns-in-Ok g c =
    on-ok-both c.begin.result
    (λ grows there fragments. goes-sets (pieces_of fragments c.args.table.now) c.args.sets.now c.in-Ok.closed.items c.args.around (stage_of c.args.progress.now)
    (stage_of c.spend.new.self) (stage_of c.begin.new.self) (c.in-Ok.ensures fragments) c.spend.ensures grows there)
    c.begin.ensures.grows c.begin.ensures.there

pub returns-in-Err-Bound : goal.returns-in-Err-Bound
returns-in-Err-Bound g c = λ fragments.
    let t = pieces_of fragments c.args.table.now in
    goes-bound t (λ e. ⊥) (HoldsSets t c.args.around c.args.sets.now) (λ stage. IsGathered t stage.bundles c.args.around (Contains c.args.sets.now)) (stage_of c.args.progress.now)
    (record { told = (stage_of c.args.progress.now).told; bundles = (stage_of c.args.progress.now).bundles; is_within = false }) refl refl refl
