-- Plain texts in the lines of a file, each a JSON object that has the text under `plain` (RFC
-- 8259).
use Rattle.std.specs.Prelude.{◌≡◌, ℕ, ◌+◌, false, Bool, List, [], ◌∷◌, ◌++◌, length, Option, None}
use Rattle.std.specs.Prelude.{IsSome, codes, option_and_then}
use Rattle.std.specs.List.{All}
use Rattle.std.specs.Option.{option_map_or}
use Rattle.std.specs.Str.{bytes_eq}
use Rattle.serde_json.specs.Data.{Data}
use Rattle.serde_json.specs.Find.{get, as_str}
use Rattle.graphql_names.specs.Names.{Bytes}
use Rattle.graphql_lines.specs.Request.{data_of}

-- the text under `plain`, if there is one
abbrev pub plain_in : Data → Option Bytes
plain_in d = option_and_then as_str (get (codes "plain") d)

-- the plain text that a line tells; an empty line tells none
abbrev pub text_in_line : Bytes → Option Bytes
text_in_line [] = None
text_in_line (b ∷ bs) = option_and_then plain_in (data_of (b ∷ bs))

abbrev pub tells : Bytes → Bytes → Bool
tells plain line = option_map_or (bytes_eq plain) (text_in_line line) false

-- a line that is empty, or tells a plain text
abbrev pub IsFine : Bytes → Type 0
IsFine [] = Unit {0}
IsFine (b ∷ bs) = IsSome (text_in_line (b ∷ bs))

-- the line of this number, counted from one, is the first that is not fine
pub record FirstFault (ls : List Bytes) (number : ℕ) : Type 0 where
  pub before : List Bytes
  pub line : Bytes
  pub behind : List Bytes
  pub is : ls ≡ before ++ line ∷ behind
  pub place : number ≡ length before + 1
  pub fine : All IsFine before
  pub fault : IsFine line → ⊥
