use Rattle.std.proofs.Common.{◌≡◌, ◌&&◌, drop}
use Rattle.std.specs.List.{list_all}
use Rattle.graphql_plain_text.specs.WritableTest.{name_test, writable}
use Rattle.graphql_plain_text.proofs.writable.+passes.Given as goal

abbrev pub decreases-passes : goal.decreases-passes
decreases-passes l = goal.size-passes l

abbrev pub invariant-loop-item : goal.invariant-loop-item
invariant-loop-item l = list_all (λ x. writable l.is_const x.item) (drop l.item-index l.item-items) ≡ list_all (λ x. writable l.is_const x.item) l.item-items

abbrev pub invariant-loop-pair : goal.invariant-loop-pair
invariant-loop-pair l =
    list_all (λ p. name_test p.0.item && writable l.is_const p.1.item) (drop l.pair-index l.pair-items) ≡ list_all (λ p. name_test p.0.item && writable l.is_const p.1.item) l.pair-items
