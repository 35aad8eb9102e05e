use Rattle.std.proofs.Common.{◌≡◌, ℕ, ◌<◌, get_or}
use Rattle.graphql_grammar.specs.Input.{Located}
use Rattle.graphql_stores_tests.proofs.spelled.have_same_items.Given as goal

abbrev pub invariant-loop-place : goal.invariant-loop-place
invariant-loop-place l = (k : ℕ) → k < l.place → (d : Located) → (get_or l.tokens k d).item ≡ (get_or l.others k d).item
