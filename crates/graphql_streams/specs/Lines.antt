-- The lines of a stream.
use Rattle.std.specs.Prelude.{◌≡◌, ℕ, ◌+◌, List, [], ◌∷◌, ◌++◌, take, drop, if◌then◌else◌, ◌==◌}
use Rattle.std.specs.Prelude.{Option, Some, None}

-- the lines that end in these bytes, each at a line feed; the first has begun with other bytes
abbrev pub whole_lines : List ℕ → List ℕ → List (List ℕ)
whole_lines begun [] = []
whole_lines begun (b ∷ bs) =
    if b == 10 then begun ∷ whole_lines [] bs else whole_lines (begun ++ b ∷ []) bs

-- what stands behind the last line feed
abbrev pub last_line : List ℕ → List ℕ → List ℕ
last_line begun [] = begun
last_line begun (b ∷ bs) = if b == 10 then last_line [] bs else last_line (begun ++ b ∷ []) bs

-- all lines; what stands behind the last line feed is the last, and may be empty
abbrev pub lines : List ℕ → List (List ℕ)
lines bs = whole_lines [] bs ++ last_line [] bs ∷ []

-- as much of a line as is kept: one byte more than the limit makes it too long
abbrev pub kept_of : ℕ → List ℕ → List ℕ
kept_of limit line = take (limit + 1) line

-- the line that has begun ends here
pub record EndsHere (bs : List ℕ) (end : ℕ) : Type 0 where
  pub first : (begun : List ℕ)
      → whole_lines begun bs ≡ (begun ++ take end bs) ∷ whole_lines [] (drop (end + 1) bs)
  pub last : (begun : List ℕ) → last_line begun bs ≡ last_line [] (drop (end + 1) bs)

-- it does not end in these bytes
pub record EndsLater (bs : List ℕ) : Type 0 where
  pub none : (begun : List ℕ) → whole_lines begun bs ≡ []
  pub last : (begun : List ℕ) → last_line begun bs ≡ begun ++ bs

abbrev pub EndsAt : List ℕ → Option ℕ → Type 0
EndsAt bs None = EndsLater bs
EndsAt bs (Some end) = EndsHere bs end
