use Rattle.std.proofs.Common.{ap, ◌∙◌, map, option_map}
use Rattle.std.proofs.lemmas.Result.{on_ok_weaker}
use Rattle.graphql_merging.specs.Tables.{pieces_of}
use Rattle.graphql_merging.specs.declared.table.WrittenField.{WrittenField}
use Rattle.graphql_bundles.specs.Bundles.{GroupPart}
use Rattle.graphql_bundles.specs.Going.{stage_of}
use Rattle.graphql_bundles.proofs.GoesLemmas.{goes-part}
use Rattle.graphql_bundles.proofs.parts.begin_part.Goals as goal

pub returns : goal.returns
returns g c =
    let part : GroupPart = record { of = option_map (λ n. n.now) c.args.name; around = c.args.around } in
    on_ok_weaker c.begin_sets.result
    (λ goes fragments. goes-part (pieces_of fragments c.args.table.now) fragments c.args.group.now part c.as_slice-2.result.now
    (c.as_slice-2.ensures ∙ c.in_ok-numbers.ensures ∙ ap (map (λ (f : WrittenField g.row.S.Denot g.row.C.Denot). f.own)) (c.as_slice.ensures ∙ c.in_ok-fields.ensures))
    (stage_of c.args.progress.now) (stage_of c.begin_sets.new.progress) (goes fragments))
    c.begin_sets.ensures
