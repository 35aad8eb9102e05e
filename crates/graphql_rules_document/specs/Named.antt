-- Where names stand among names in a row: what an index of fragments keeps.
use Rattle.std.specs.Prelude.{ℕ, suc, List, [], ◌∷◌, ◌++◌, map, Option, Some, None, if◌then◌else◌}
use Rattle.std.specs.List.{slice_get}
use Rattle.std.specs.Option.{option_and_then, option_map, option_or}
use Rattle.std.specs.Str.{bytes_eq}
use Rattle.graphql_names.specs.Names.{Bytes}
use Rattle.graphql_rules_document.specs.declared.scopes.FragmentScope.{FragmentScope}

-- the names of fragments, in order
abbrev pub fragment_names : List FragmentScope → List Bytes
fragment_names = map (λ f. f.name.now)

-- the place of the last of these names that is this one
abbrev pub last_place : List Bytes → Bytes → Option ℕ
last_place [] name = None
last_place (n ∷ names) name =
    option_or (option_map suc (last_place names name)) (if bytes_eq n name then Some 0 else None)

abbrev pub earlier_among : List Bytes → List Bytes → List (Option ℕ)
earlier_among before [] = []
earlier_among before (n ∷ names) = last_place before n ∷ earlier_among (before ++ n ∷ []) names

-- of each name, the place where it stands last before
abbrev pub earlier_places : List Bytes → List (Option ℕ)
earlier_places = earlier_among []

-- the same of the name at one place
abbrev pub earlier_place : List Bytes → ℕ → Option ℕ
earlier_place names place = option_and_then (λ p. p) (slice_get (earlier_places names) place)
