-- Names in lists and sets.
use Rattle.std.specs.Prelude.{◌≡◌, Bool, true, false, List, [], ◌∷◌}
use Rattle.graphql_names.specs.Names.{Bytes, is_one_of}

-- each name stands in both or in neither
pub record AreSame (xs ys : List Bytes) : Type 0 where
  pub same : (name : Bytes) → is_one_of xs name ≡ is_one_of ys name

-- there is nothing in the list
abbrev pub is_nothing : {A : Type 0} → List A → Bool
is_nothing [] = true
is_nothing (x ∷ xs) = false
