use Rattle.std.proofs.Common.{◌≡◌, ◌++◌, [], ◌∷◌, map, ap, sym, ◌∙◌, append-nil, append_assoc, rules, arith}
use Rattle.std.proofs.lemmas.Grind.{common_steps}
use Rattle.std.specs.Vec.Iter.{into_iter_items}
use Rattle.graphql_bundles.specs.Conflicts.{error_of}
use Rattle.graphql_rules_merging.proofs.order.errors_of.Goals as goal

pub returns : goal.returns
returns c =
    let ended : into_iter_items c.loop-conflict.conflict-iterator ≡ [] = grind (arith, common_steps) in
    sym (c.loop-conflict.invariant ∙ ap (λ cs. c.loop-conflict.errors ++ map error_of cs) ended ∙ append-nil c.loop-conflict.errors)

pub loop-conflict-preserved : goal.loop-conflict-preserved
loop-conflict-preserved c =
    let next : into_iter_items c.loop-conflict.conflict-iterator ≡ c.in-Some.conflict ∷ into_iter_items c.next.new.self = search rules in
    c.loop-conflict.invariant
    ∙ ap (λ cs. c.loop-conflict.errors ++ map error_of cs) next
    ∙ sym (append_assoc c.loop-conflict.errors (error_of c.in-Some.conflict ∷ []) (map error_of (into_iter_items c.next.new.self)))
    ∙ ap (λ es. es ++ map error_of (into_iter_items c.next.new.self)) (sym (c.in_ok-push.ensures.ok ∙ ap (λ e. c.loop-conflict.errors ++ e ∷ []) c.into_error.ensures))
