use Rattle.std.proofs.Common.{◌≡◌, ◌∙◌, sym, subst, Bool, false}
use Rattle.std.specs.List.{Contains}
use Rattle.std.proofs.lemmas.Result.{on_ok_weaker}
use Rattle.graphql_bundles.specs.Conflicts.{places}
use Rattle.graphql_merging.specs.Tables.{pieces_of}
use Rattle.graphql_bundles.specs.Bundles.{GroupPart, parts, IsGroupPassed}
use Rattle.graphql_bundles.specs.Going.{GroupLeadsTo, stage_of}
use Rattle.graphql_bundles.specs.Steps.{ArePartNamed, Compares, Goes, IsFoundOf}
use Rattle.graphql_bundles.specs.Groups.{group_of}
use Rattle.graphql_bundles.proofs.GoesLemmas.{group-apart, group-whole}
use Rattle.graphql_bundles.proofs.parts.pass_many.Goals as goal

pub returns-then-around-clause-passed : goal.returns-then-around-clause-passed
returns-then-around-clause-passed g c =
    let eq = g.S.PartialEq.eq in
    let types = c.args.schema.now.types in
    on_ok_weaker c.begin_part.result
    (λ goes fragments.
    let t = pieces_of fragments c.args.table.now in
    let group = group_of fragments c.args.group.now in
    subst (λ (x : Bool). Goes (IsFoundOf eq types x group.fields) (GroupLeadsTo t x group) (λ stage. IsGroupPassed t eq types stage.bundles stage.told x group)
    (stage_of c.args.progress.now) (stage_of c.begin_part.new.progress)) (sym c.if-around.true)
    (group-apart t fragments c.args.group.now eq types (places c.args.progress.now.told) (places c.compare_shapes.new.told) (stage_of c.args.progress.now).bundles
    c.args.progress.now.is_within (stage_of c.begin_part.new.progress) (c.in_ok-compare_shapes.ensures.told fragments) (goes fragments)))
    c.begin_part.ensures

pub returns-clause-passed : goal.returns-clause-passed
returns-clause-passed g c =
    let eq = g.S.PartialEq.eq in
    let types = c.args.schema.now.types in
    let names = c.as_slice-objects.ensures.keys ∙ c.in_ok-names.ensures in
    on_ok_weaker c.begin_parts.result
    (λ goes fragments.
    let t = pieces_of fragments c.args.table.now in
    let group = group_of fragments c.args.group.now in
    subst (λ (x : Bool). Goes (IsFoundOf eq types x group.fields) (GroupLeadsTo t x group) (λ stage. IsGroupPassed t eq types stage.bundles stage.told x group)
    (stage_of c.args.progress.now) (stage_of c.begin_parts.new.progress)) (sym c.if-around.false)
    (group-whole t fragments c.args.group.now eq types (places c.args.progress.now.told) (places c.compare_shapes.new.told) (places c.compare_names.new.told)
    (stage_of c.args.progress.now).bundles c.args.progress.now.is_within (stage_of c.begin_parts.new.progress) (c.in_ok-compare_shapes.ensures.told fragments)
    (subst (λ ns. Compares (IsFoundOf eq types false group.fields)
    ((part : GroupPart) → Contains (parts false ns) part → part.around ≡ false → ArePartNamed eq types group.fields part)
    (places c.compare_shapes.new.told) (places c.compare_names.new.told)) names (c.in_ok-compare_names.ensures.told fragments))
    (goes fragments)))
    c.begin_parts.ensures
