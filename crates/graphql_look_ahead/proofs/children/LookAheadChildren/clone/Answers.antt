use Rattle.std.proofs.Common.{◌∙◌, ◌<◌, ap, sym, subst, List, [], ◌∷◌, ◌++◌, length, get_or}
use Rattle.std.proofs.lemmas.List.{take_more}
use Rattle.graphql_look_ahead.specs.declared.selection.LookAheadSelection.{LookAheadSelection}
use Rattle.graphql_look_ahead.proofs.children.LookAheadChildren.clone.Goals as goal

pub loop-child-preserved : goal.loop-child-preserved
loop-child-preserved g c =
    let own = c.args.self.now.children in
    let same = c.as_slice-child-items.ensures in
    let i = c.loop-child.child-index in
    let x = c.child-item.result in
    let within = subst (λ (xs : List (LookAheadSelection g.row.S.Denot g.row.C.Denot)). i < length xs) same c.loop-child-test.true in
    let is = c.child-item.is ∙ ap (λ (xs : List (LookAheadSelection g.row.S.Denot g.row.C.Denot)). get_or xs i x) same in
    c.in_ok-push.ensures.ok ∙ (λ j. c.loop-child.invariant j ++ (c.lent.ensures ∙ is) j ∷ []) ∙ sym (take_more own i x within)
