-- Counts of failures.
use Rattle.std.specs.Prelude.{◌≡◌, ℕ, ◌+◌, ◌-◌, ◌^◌, min, ◌==◌, if◌then◌else◌}

-- one more; a count at its greatest value stays there
abbrev pub risen : ℕ → ℕ
risen n = min (n + 1) (2 ^ 64 - 1)

-- it was one more
abbrev pub HasRisen : ℕ → ℕ → Type 0
HasRisen old new = new ≡ risen old

-- a write that takes nothing counts
abbrev pub risen_if_none : ℕ → ℕ → ℕ
risen_if_none count n = if count == 0 then risen n else n
