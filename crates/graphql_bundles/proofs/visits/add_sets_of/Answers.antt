use Rattle.std.proofs.Common.{◌∙◌, ap, sym, refl, map, [], Some, None}
use Rattle.std.proofs.lemmas.Result.{on_ok_weaker}
use Rattle.graphql_merging.specs.declared.table.WrittenField.{WrittenField}
use Rattle.graphql_bundles.proofs.ClosedLemmas.{adds-none}
use Rattle.graphql_bundles.proofs.VisitLemmas.{adds-sets}
use Rattle.graphql_bundles.proofs.visits.add_sets_of.Goals as goal

pub returns-in_default : goal.returns-in_default
returns-in_default g c = λ fragments.
    let old = c.args.sets.now.keys in
    adds-sets fragments c.args.table.now c.args.number None old old old [] [] (sym c.in_default.ensures) refl refl (adds-none old) (adds-none old)

pub returns : goal.returns
returns g c =
    on_ok_weaker c.add_numbers-2.result
    (λ adds fragments. adds-sets fragments c.args.table.now c.args.number (Some c.in-Some.set.now) c.args.sets.now.keys c.add_numbers.new.sets.keys
    c.add_numbers-2.new.sets.keys c.as_slice.result.now c.as_slice-3.result.now (sym c.in-Some.ensures) c.as_slice.ensures
    (c.as_slice-3.ensures ∙ c.in_ok-own.ensures ∙ ap (map (λ (f : WrittenField g.row.S.Denot g.row.C.Denot). f.own)) c.as_slice-2.ensures)
    c.in_ok-add_numbers.ensures adds)
    c.add_numbers-2.ensures
