-- Selection sets that are plain by themselves: no directives but those of stand-ins, each alone in
-- its set.
use Rattle.std.specs.Prelude.{◌≡◌, ◌⊎◌, Bool, true, false, []}
use Rattle.graphql_written_out.specs.Trees.{Directives, Tree, none, field, inline}

-- `stand_in`: the directives of a stand-in
module _ {S : Type 0} (stand_in : Directives S) where
  -- by whether a stand-in is asked: one selection with its directives; else selections without
  -- directives
  abbrev pub IsPlainSet : Bool → Tree S → Type 0
  IsPlainSet stands_in none = Unit {0}
  IsPlainSet true (field head directives below rest) =
      (directives ≡ stand_in) × (rest ≡ none) × (IsPlainSet true below ⊎ IsPlainSet false below)
  IsPlainSet false (field head directives below rest) =
      (directives ≡ []) × IsPlainSet false rest × (IsPlainSet true below ⊎ IsPlainSet false below)
  IsPlainSet true (inline on directives below rest) =
      (directives ≡ stand_in) × (rest ≡ none) × (IsPlainSet true below ⊎ IsPlainSet false below)
  IsPlainSet false (inline on directives below rest) =
      (directives ≡ []) × IsPlainSet false rest × (IsPlainSet true below ⊎ IsPlainSet false below)

  abbrev pub IsPlain : Tree S → Type 0
  IsPlain set = IsPlainSet true set ⊎ IsPlainSet false set
