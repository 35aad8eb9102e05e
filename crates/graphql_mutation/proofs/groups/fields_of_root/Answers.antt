use Rattle.std.proofs.Common.{subst, sym}
use Rattle.std.specs.Prelude.{IfOk}
use Rattle.std.specs.List.{flat_map}
use Rattle.std.proofs.lemmas.Simd.{map-map}
use Rattle.graphql_collect.specs.Grouped.{all_found}
use Rattle.graphql_collected.specs.Requests.{fields_in, found_at, fragments_in}
use Rattle.graphql_written_out.specs.Fields.{Found}
use Rattle.graphql_written_out.specs.Repeats.{Repeats}
use Rattle.graphql_mutation.proofs.groups.fields_of_root.Goals as goal

pub returns-in-Below : goal.returns-in-Below
returns-in-Below g c =
    let rq = c.args.root.now.request.now in
    let collected = flat_map (fields_in g.S.ScalarValue.answer rq c.args.root.now.current_type.name.now) in
    rw c.in-Below.is
    (subst (λ sets. IfOk c.fields_below.result (λ found. Repeats (all_found (fragments_in rq) found) (collected sets)))
    (sym (map-map (λ (y : Found g.row.S.Denot). y.below) (λ x. found_at rq x.field.now) c.in-Below.fields.now))
    c.fields_below.ensures.fields)
