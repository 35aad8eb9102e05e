-- What a call leaves of the bytes behind which it writes, whether or not it fails.
use Rattle.std.specs.Prelude.{◌≡◌, ℕ, List, ◌++◌}

-- the old bytes still stand at the front, whatever stands behind them
pub record KeepsFront (old new : List ℕ) : Type 0 where
  pub behind : List ℕ
  pub is : new ≡ old ++ behind
