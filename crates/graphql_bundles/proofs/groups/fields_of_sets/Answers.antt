use Rattle.std.proofs.Common.{◌∙◌, ap, sym, ◌++◌, [], append-nil, get_or}
use Rattle.std.specs.Option.{option_map_or}
use Rattle.graphql_values.proofs.SameValueLemmas.{get_or_any}
use Rattle.graphql_merging.specs.declared.table.WrittenSet.{WrittenSet}
use Rattle.graphql_bundles.specs.Groups.{fields_in}
use Rattle.graphql_bundles.proofs.ListLemmas.{flat-more}
use Rattle.graphql_bundles.proofs.groups.fields_of_sets.Goals as goal
use Rattle.graphql_bundles.proofs.groups.fields_of_sets.Goals.{in-Some+in_ok-extend_from_slice, in_default}

pub loop-number-preserved : goal.loop-number-preserved
loop-number-preserved g c =
    let i = c.loop-number.number-index in
    let x = get_or c.args.sets.now i 0 in
    let is = get_or_any c.args.sets.now i 0 x c.loop-number-test.true in
    elim c.match-get.branch [
      | in-Some+in_ok-extend_from_slice w ↦ flat-more (fields_in c.args.table.now) c.args.sets.now i x c.loop-number.fields c.match-get.fields c.loop-number-test.true is
          c.loop-number.invariant
          (w.fields-is ∙ w.in_ok-extend_from_slice.ensures.ok
          ∙ ap (λ ys. c.loop-number.fields ++ ys)
          (w.as_slice.ensures ∙ ap (λ o. option_map_or (λ (s : WrittenSet g.row.S.Denot g.row.C.Denot). s.fields) o []) w.in-Some.ensures))
      | in_default w ↦ flat-more (fields_in c.args.table.now) c.args.sets.now i x c.loop-number.fields c.match-get.fields c.loop-number-test.true is
          c.loop-number.invariant
          (w.fields-is ∙ sym (append-nil c.loop-number.fields)
          ∙ ap (λ ys. c.loop-number.fields ++ ys) (ap (λ o. option_map_or (λ (s : WrittenSet g.row.S.Denot g.row.C.Denot). s.fields) o []) w.in_default.ensures))
    ]
