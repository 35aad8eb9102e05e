use Rattle.std.proofs.Common.{◌∙◌, sym, ap, arith, refl, false, subst}
use Rattle.std.specs.List.{flat_map}
use Rattle.std.proofs.lemmas.Result.{on_ok_weaker}
use Rattle.graphql_merging.specs.Tables.{pieces_of}
use Rattle.graphql_bundles.specs.Bundles.{Bundle, IsPassed}
use Rattle.graphql_bundles.specs.declared.bundle.Bundle.{Bundle as Begun}
use Rattle.graphql_bundles.specs.Counted.{repeats_in_groups}
use Rattle.graphql_bundles.specs.Going.{IsFoundIn, LeadsTo, stage_of}
use Rattle.graphql_bundles.specs.Steps.{FoundInGroups, Goes, GroupsLeadTo, GroupsPassed}
use Rattle.graphql_bundles.specs.Groups.{IsGrouped, fields_in}
use Rattle.graphql_bundles.proofs.GoesLemmas.{goes-bound}
use Rattle.graphql_bundles.proofs.PassLemmas.{bundle-at, bundle-none, goes-bundle}
use Rattle.graphql_bundles.proofs.pass.pass_bundle.Goals as goal

abbrev view : Begun → Bundle
view b = record { sets = b.sets.items; around = b.around }

pub returns-in_default-clause-passed : goal.returns-in_default-clause-passed
returns-in_default-clause-passed g c = λ fragments b at. absurd (bundle-none view c.args.progress.now.bundles.keys c.args.number b (sym c.in_default.ensures.key) at)

pub returns-clause-passed : goal.returns-clause-passed
returns-clause-passed g c =
    let eq = g.S.PartialEq.eq in
    let types = c.args.schema.now.types in
    on_ok_weaker c.pass_groups.result
    (λ goes fragments b at.
    let t = pieces_of fragments c.args.table.now in
    let here : Bundle = view c.in-Some.bundle.now in
    subst (λ (a : Bundle). Goes (IsFoundIn t eq types a) (LeadsTo t a) (λ stage. IsPassed t eq types stage.bundles stage.told a) (stage_of c.args.progress.now)
    (stage_of c.pass_groups.new.progress)) (bundle-at view c.args.progress.now.bundles.keys c.args.number b c.in-Some.bundle.now (sym c.in-Some.ensures.key) at)
    (goes-bundle eq types c.args.table.now fragments here c.in_ok-fields.fields c.in_ok-groups.groups
    (c.in_ok-fields.ensures ∙ ap (flat_map (fields_in c.args.table.now)) c.as_slice.ensures.value)
    (subst (λ fs. IsGrouped fs c.in_ok-groups.groups) c.as_slice-2.ensures c.in_ok-groups.ensures.grouped)
    (stage_of c.args.progress.now) (stage_of c.spend.new.self) (stage_of c.pass_groups.new.progress) c.spend.ensures
    (subst (λ gs. Goes (FoundInGroups eq types fragments here.around gs) (GroupsLeadTo t fragments here.around gs)
    (GroupsPassed t eq types fragments here.around gs) (stage_of c.spend.new.self) (stage_of c.pass_groups.new.progress)) c.as_slice-4.ensures (goes fragments))))
    c.pass_groups.ensures.passed

pub returns-then-not-has_room-clause-passed : goal.returns-then-not-has_room-clause-passed
returns-then-not-has_room-clause-passed g c = λ fragments b at.
    let t = pieces_of fragments c.args.table.now in
    let types = c.args.schema.now.types in
    let stage = stage_of c.args.progress.now in
    goes-bound t (IsFoundIn t g.S.PartialEq.eq types b) (LeadsTo t b) (λ stage. IsPassed t g.S.PartialEq.eq types stage.bundles stage.told b) stage
    (record { told = stage.told; bundles = stage.bundles; is_within = false }) refl refl refl

pub returns-clause-counted : goal.returns-clause-counted
returns-clause-counted g c =
    let room = c.has_room.ensures c.if-not-has_room.false in
    let asked = ap repeats_in_groups (c.as_slice-3.ensures ∙ sym c.as_slice-4.ensures) in
    on_ok_weaker c.pass_groups.result (λ counted. omega (arith, counted, room, asked)) c.pass_groups.ensures.counted
