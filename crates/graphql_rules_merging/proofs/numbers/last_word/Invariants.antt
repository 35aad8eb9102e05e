use Rattle.std.proofs.Common.{◌≡◌, ℕ, ◌≤◌, length, get_or}
use Rattle.graphql_rules_merging.proofs.numbers.last_word.Given as goal

-- zeros are taken away alone
abbrev pub invariant-words : goal.invariant-words
invariant-words l = record { bound : length l.words ≤ length l.initial.words; same : (k : ℕ) → get_or l.words k 0 ≡ get_or l.initial.words k 0 }

abbrev pub decreases-words : goal.decreases-words
decreases-words l = length l.words
