-- What a store allows, and what a file makes it allow.
use Rattle.std.specs.Prelude.{◌≡◌, ℕ, ◌+◌, ◌||◌, Bool, Result, Ok, Err}
use Rattle.std.specs.HashSet.{contains_text}
use Rattle.std.specs.List.{All, list_any}
use Rattle.graphql_names.specs.Names.{Bytes}
use Rattle.graphql_streams.specs.Lines.{lines}
use Rattle.graphql_stores.specs.Told.{FirstFault, IsFine, tells}
use Rattle.graphql_stores.specs.declared.allowed_fault.AllowedFault.{AllowedFault}
use Rattle.graphql_stores.specs.declared.allowed_fault.AllowedFault.TheVariants as fault
use Rattle.graphql_stores.specs.declared.allowed_queries.AllowedQueries.{AllowedQueries}

-- whether requests of this plain text are allowed
abbrev pub is_allowed : AllowedQueries → Bytes → Bool
is_allowed store plain = contains_text store.texts plain

-- the new store allows what the old one does, and the text that a line tells
abbrev pub AllowsMore : AllowedQueries → Bytes → AllowedQueries → Type 0
AllowsMore old line new =
    (plain : Bytes) → is_allowed new plain ≡ (is_allowed old plain || tells plain line)

-- a line that so many stand before: one that is fine adds the text that it tells, and the number of
-- another one, counted from one, is told. Want of memory tells nothing
abbrev pub TakesLine : {A : Type 0} → AllowedQueries → Bytes → ℕ → AllowedQueries
    → Result A AllowedFault → Type 0
TakesLine old line before new (Ok done) = IsFine line × AllowsMore old line new
TakesLine old line before new (Err (fault.Line number)) = (number ≡ before + 1) × (IsFine line → ⊥)
TakesLine old line before new (Err fault.Memory) = Unit {0}

-- each line of the file is fine, and the store allows what they tell; or the first that is not is
-- told
abbrev pub ReadsFile : Bytes → Result AllowedQueries AllowedFault → Type 0
ReadsFile file (Ok store) =
    All IsFine (lines file)
    × ((plain : Bytes) → is_allowed store plain ≡ list_any (tells plain) (lines file))
ReadsFile file (Err (fault.Line number)) = FirstFault (lines file) number
ReadsFile file (Err fault.Memory) = Unit {0}
