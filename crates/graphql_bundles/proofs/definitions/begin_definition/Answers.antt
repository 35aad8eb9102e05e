use Rattle.std.proofs.Common.{◌≡◌, refl, false, subst, [], ◌∷◌}
use Rattle.graphql_merging.specs.Tables.{pieces_of}
use Rattle.graphql_bundles.specs.Closed.{AddsNumbers, AreThose}
use Rattle.graphql_bundles.specs.Going.{stage_of}
use Rattle.graphql_bundles.specs.Held.{HoldsMore}
use Rattle.graphql_bundles.specs.Steps.{HoldsSets}
use Rattle.graphql_bundles.proofs.GoesLemmas.{goes-bound, on-ok-both}
use Rattle.graphql_bundles.proofs.HeldLemmas.{goes-definition}
use Rattle.graphql_bundles.proofs.definitions.begin_definition.Goals as goal

pub returns-in_ok-add_numbers-in-Ok : goal.returns-in_ok-add_numbers-in-Ok
returns-in_ok-add_numbers-in-Ok g c =
    on-ok-both c.begin.result
    (λ grows there fragments.
    let t = pieces_of {C = g.row.C.Denot} fragments c.args.table.now in
    let all = c.in-Ok.all.keys in
    let closed = c.in_ok-closed-in-Ok.closed.items in
    goes-definition t c.args.definition all closed c.args.held.now.keys c.add_numbers.new.sets.keys (stage_of c.args.progress.now)
    (stage_of c.spend.new.self) (stage_of c.begin.new.self) (c.in-Ok.ensures fragments)
    (subst (λ ns. AreThose (λ number. t.direct number ≡ [] → ⊥) ns closed) c.as_slice.ensures.keys (c.in_ok-closed-in-Ok.ensures fragments))
    c.spend.ensures grows there
    (subst (λ ns. AddsNumbers c.args.held.now.keys ns c.add_numbers.new.sets.keys) c.as_slice-in-Ok.ensures.keys c.in_ok-add_numbers-in-Ok.ensures))
    c.begin.ensures.grows c.begin.ensures.there

pub returns-in-Err-Bound : goal.returns-in-Err-Bound
returns-in-Err-Bound g c = λ fragments.
    let t = pieces_of fragments c.args.table.now in
    let stage = stage_of c.args.progress.now in
    goes-bound t (λ e. ⊥) (HoldsSets t false (c.args.definition ∷ [])) (HoldsMore t c.args.definition c.args.held.now.keys c.args.held.now.keys) stage
    (record { told = stage.told; bundles = stage.bundles; is_within = false }) refl refl refl
