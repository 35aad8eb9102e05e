-- Places in a text, as a list of characters (GraphQL October 2021, 2.1.3 Line Terminators; of these
-- a line feed alone is counted).
use Rattle.std.specs.Prelude.{ℕ, ◌+◌, List, [], ◌∷◌, length, take, count_by, if◌then◌else◌, ◌==◌}
use Rattle.graphql_text.specs.declared.position.SourcePosition.{SourcePosition}

-- before the first character
abbrev pub origin : SourcePosition
origin = record { index = 0; line = 0; column = 0 }

-- behind one character that is no line feed
abbrev pub next_column : SourcePosition → SourcePosition
next_column p = record { index = p.index + 1; line = p.line; column = p.column + 1 }

-- behind one line feed
abbrev pub next_line : SourcePosition → SourcePosition
next_line p = record { index = p.index + 1; line = p.line + 1; column = 0 }

-- behind one character
abbrev pub step : SourcePosition → ℕ → SourcePosition
step p c = if c == 10 then next_line p else next_column p

-- how many characters stand after the last line feed, or after column more where there is none
abbrev pub column_from : ℕ → List ℕ → ℕ
column_from column [] = column
column_from column (c ∷ cs) = if c == 10 then column_from 0 cs else column_from (column + 1) cs

-- the place behind all characters of a text: their number, the line feeds among them,
-- the characters after the last of these
abbrev pub position_of : List ℕ → SourcePosition
position_of cs =
    record { index = length cs; line = count_by (λ c. c == 10) cs; column = column_from 0 cs }

-- the place of an index in a text
abbrev pub position_at : List ℕ → ℕ → SourcePosition
position_at text index = position_of (take index text)
