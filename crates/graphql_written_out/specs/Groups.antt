-- Fields by their response keys, in order of first appearance (GraphQL October 2021, 6.3.2 Field
-- Collection).
use Rattle.std.specs.Prelude.{Bool, List, [], ◌∷◌, ◌++◌, map, if◌then◌else◌}
use Rattle.std.specs.List.{filter, list_any}
use Rattle.std.specs.Str.{bytes_eq}
use Rattle.graphql_names.specs.Names.{Bytes}
use Rattle.graphql_written_out.specs.Fields.{Found}

module _ {S : Type 0} where
  -- the keys that are not done yet, each once
  abbrev pub keys_after : List Bytes → List (Found S) → List Bytes
  keys_after done [] = []
  keys_after done (x ∷ xs) =
      if list_any (bytes_eq x.head.key) done then keys_after done xs
      else x.head.key ∷ keys_after (done ++ x.head.key ∷ []) xs

  -- the response keys, each once, in the order of their first fields
  abbrev pub keys : List (Found S) → List Bytes
  keys = keys_after []

  -- the fields of a key
  abbrev pub under : List (Found S) → Bytes → List (Found S)
  under xs key = filter (λ x. bytes_eq key x.head.key) xs

  -- each key with its fields
  abbrev pub groups : List (Found S) → List (Bytes × List (Found S))
  groups xs = map (λ key. (key, under xs key)) (keys xs)
