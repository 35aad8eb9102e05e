-- Sets of numbers as bits of words.
use Rattle.std.specs.Prelude.{ℕ, ◌/◌, ◌%◌, eqb, Bool, List, get_or}
use Rattle.std.specs.Int.{bit_at}

-- a number is in the set: the bit of the number is set
abbrev pub has_number : List ℕ → ℕ → Bool
has_number words number = eqb (bit_at (get_or words (number / 64) 0) (number % 64)) 1
