use Rattle.std.proofs.Common.{◌≡◌, ℕ, ◌+◌, ◌-◌, length}
use Rattle.graphql_rules_merging.specs.PairTables.{words_at}
use Rattle.graphql_rules_merging.proofs.queue.lengthen.Given as goal

-- empty rows are added alone
abbrev pub invariant-rows : goal.invariant-rows
invariant-rows l = (k : ℕ) → words_at l.table k ≡ words_at l.initial.table k

abbrev pub decreases-rows : goal.decreases-rows
decreases-rows l = l.right + 1 - length l.table
