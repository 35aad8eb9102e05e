use Rattle.std.proofs.Common.{◌∙◌, ap, map, rules, subst}
use Rattle.std.specs.List.Sorted.{IsPermutation}
use Rattle.std.proofs.lemmas.Fn.{dedup_same}
use Rattle.std.proofs.lemmas.Result.{IfOk-weaker}
use Rattle.graphql_rule_errors.specs.contracts.rule_error.RuleErrorOrd.TheImpl.Laws.{lawful}
use Rattle.graphql_bundles.specs.Conflicts.{error_of}
use Rattle.graphql_rules_merging.proofs.InOrder.{in-order, rise-whole, same_places, told-kept}
use Rattle.graphql_rules_merging.proofs.order.put_in_order.Goals as goal

pub returns-clause-once : goal.returns-clause-once
returns-clause-once c =
    let moved = c.sort.new.self.items in
    let kept = dedup_same _ same_places _ (λ x y b f' x' y' k. search rules) moved c.dedup_by.new.self.items c.dedup_by.ensures.filtered in
    IfOk-weaker c.errors_of.result _ _
    (λ errors is.
    (told-kept c.args.found moved (subst (λ old. IsPermutation old moved) c.into_vec-conflicts.ensures c.sort.ensures.permutation)
    c.in_ok-sort.ensures.sorted errors (is ∙ ap (map error_of) kept)).once)
    c.errors_of.ensures

pub returns-clause-same : goal.returns-clause-same
returns-clause-same c =
    let moved = c.sort.new.self.items in
    let kept = dedup_same _ same_places _ (λ x y b f' x' y' k. search rules) moved c.dedup_by.new.self.items c.dedup_by.ensures.filtered in
    IfOk-weaker c.errors_of.result _ _
    (λ errors is.
    (told-kept c.args.found moved (subst (λ old. IsPermutation old moved) c.into_vec-conflicts.ensures c.sort.ensures.permutation)
    c.in_ok-sort.ensures.sorted errors (is ∙ ap (map error_of) kept)).same)
    c.errors_of.ensures

pub returns-clause-first : goal.returns-clause-first
returns-clause-first c =
    let moved = c.sort.new.self.items in
    let kept = dedup_same _ same_places _ (λ x y b f' x' y' k. search rules) moved c.dedup_by.new.self.items c.dedup_by.ensures.filtered in
    IfOk-weaker c.errors_of.result _ _
    (λ errors is.
    (told-kept c.args.found moved (subst (λ old. IsPermutation old moved) c.into_vec-conflicts.ensures c.sort.ensures.permutation)
    c.in_ok-sort.ensures.sorted errors (is ∙ ap (map error_of) kept)).first)
    c.errors_of.ensures

pub returns-clause-sorted : goal.returns-clause-sorted
returns-clause-sorted c =
    IfOk-weaker c.errors_of.result _ _ (λ errors once. in-order lawful.total errors (rise-whole errors once)) (returns-clause-once c)
