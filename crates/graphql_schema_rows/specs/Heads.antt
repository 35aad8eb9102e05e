-- What stands first in a type's row (GraphQL October 2021, 3.2 Descriptions, 3.4 Types).
use Rattle.std.specs.Prelude.{◌==◌, Bool, true, false, Option, Some, None, ℕ, [], ◌∷◌}
use Rattle.std.specs.Str.{trim_start}
use Rattle.graphql_names.specs.Names.{Bytes}

-- `"`
abbrev pub quote : ℕ
quote = 34

abbrev pub or_here : Option Bytes → Bool → Bytes → Option Bytes
or_here (Some later) here rest = Some later
or_here None true rest = Some rest
or_here None false rest = None

-- what stands behind the last of these bytes, if one is there
abbrev pub behind_last : ℕ → Bytes → Option Bytes
behind_last b [] = None
behind_last b (x ∷ xs) = or_here (behind_last b xs) (x == b) xs

abbrev pub name_behind : Bytes → Option Bytes → Bytes
name_behind head None = head
name_behind head (Some rest) = trim_start rest

-- what has to be the name: behind the last quote and the blanks there, or all where there is no
-- quote
abbrev pub name_part : Bytes → Bytes
name_part head = name_behind head (behind_last quote head)
