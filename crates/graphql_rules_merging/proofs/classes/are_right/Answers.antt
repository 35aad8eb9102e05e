use Rattle.std.proofs.Common.{◌∙◌, ◌<◌, ap, sym, subst, List, length, get_or, arith}
use Rattle.std.specs.List.{Contains}
use Rattle.graphql_merging.specs.declared.table.WrittenField.{WrittenField}
use Rattle.graphql_merging.specs.declared.table.WrittenSet.{WrittenSet}
use Rattle.graphql_rules_merging.specs.Classes.{IsNumbered}
use Rattle.graphql_rules_merging.proofs.Classing.{rows-more, rows-all}
use Rattle.graphql_rules_merging.proofs.classes.are_right.Goals as goal

pub loop-set-preserved : goal.loop-set-preserved
loop-set-preserved g c =
    let table = c.args.table.now in
    let sets = c.as_slice-set-items.ensures in
    let P = IsNumbered g.S.PartialEq.eq c.args.schema.now.types c.args.draft.now in
    let i = c.loop-set.set-index in
    let set = c.set-item.result in
    let within = subst (λ (rows : List (WrittenSet g.row.S.Denot g.row.C.Denot)). i < length rows) sets c.loop-set-test.true in
    let is = c.set-item.is ∙ ap (λ (rows : List (WrittenSet g.row.S.Denot g.row.C.Denot)). get_or rows i set) sets in
    rows-more table P i set within is c.loop-set.invariant
    (λ f j. c.in_ok-right.ensures c.if-not-right.false f (subst (λ (fs : List (WrittenField g.row.S.Denot g.row.C.Denot)). Contains fs f) (sym c.as_slice.ensures) j))

pub returns : goal.returns
returns g c = λ _.
    let past = ap length c.as_slice-set-items.ensures in
    rows-all c.args.table.now (IsNumbered g.S.PartialEq.eq c.args.schema.now.types c.args.draft.now) c.loop-set.set-index
    (omega (arith, past, c.loop-set-test.false)) c.loop-set.invariant
