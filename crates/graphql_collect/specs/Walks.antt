-- What a walk over selection sets holds (GraphQL October 2021, 6.3.2 Field Collection,
-- CollectFields).
use Rattle.std.specs.Prelude.{Bool, List, [], ◌∷◌, ◌++◌}
use Rattle.std.specs.List.{list_any}
use Rattle.std.specs.Str.{bytes_eq}
use Rattle.graphql_names.specs.Names.{Bytes}
use Rattle.graphql_written_out.specs.Fields.{Found}
use Rattle.graphql_written_out.specs.Trees.{Tree}

-- the fragments that were entered, and the fields so far
pub record Walk (S : Type 0) : Type 0 where
  pub visited : List Bytes
  pub found : List (Found S)

abbrev pub is_visited : {S : Type 0} → Walk S → Bytes → Bool
is_visited s name = list_any (bytes_eq name) s.visited

abbrev pub marked : {S : Type 0} → Bytes → Walk S → Walk S
marked name s = record { visited = s.visited ++ name ∷ []; found = s.found }

abbrev pub with_found : {S : Type 0} → Found S → Walk S → Walk S
with_found x s = record { visited = s.visited; found = s.found ++ x ∷ [] }

-- what a name stands for: a type and a set
abbrev pub Meanings : Type 0 → Type 0
Meanings S = Bytes → Bytes × Tree S
