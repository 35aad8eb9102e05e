-- The first item of a list that gives something.
use Rattle.std.specs.Prelude.{List, Option, Some, None}
use Rattle.std.specs.List.{All}
use Rattle.graphql_schema.specs.Promises.{IsFirstWithout}

-- what the first of the items gives that gives something, or nothing where each gives nothing
abbrev pub IsFirst : {A B : Type 0} → (A → Option B → Type 0) → List A → Option B → Type 0
IsFirst At items None = All (λ x. At x None) items
IsFirst {A} At items (Some found) =
    (x : A) × IsFirstWithout (λ x. At x None) items x × At x (Some found)
