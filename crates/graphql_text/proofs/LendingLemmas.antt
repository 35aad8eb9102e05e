-- A list that was written to through a slice of it.
use Rattle.std.proofs.Common.{◌≡◌, List, length, arith}
use Rattle.std.proofs.lemmas.Grind.{common_steps}
use Rattle.graphql_text.specs.Lending.{with_items}

-- a slice keeps its length, so the list ends as the slice
pub with_items-same : {X : Type 0} (xs ws : List X) → length ws ≡ length xs → with_items xs ws ≡ ws
with_items-same xs ws same = grind (arith, common_steps)
