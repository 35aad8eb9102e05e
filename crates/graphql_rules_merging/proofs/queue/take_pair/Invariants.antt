use Rattle.std.proofs.Common.{◌≡◌, ℕ, length}
use Rattle.graphql_rules_merging.specs.PairTables.{has_pair, AreListed}
use Rattle.graphql_rules_merging.proofs.queue.take_pair.Given as goal

-- no pair is taken yet
abbrev pub invariant-rows : goal.invariant-rows
invariant-rows l = record { listed : AreListed l.table l.rows; same : (p q : ℕ) → has_pair l.table p q ≡ has_pair l.initial.table p q }

abbrev pub decreases-rows : goal.decreases-rows
decreases-rows l = length l.rows
