-- What a list or an input object holds (GraphQL October 2021, 2.9.7 List Value, 2.9.8 Input Object
-- Values).
use Rattle.std.specs.Prelude.{List, [], ◌∷◌, if◌then◌else◌, fold}
use Rattle.std.specs.Str.{bytes_eq}
use Rattle.graphql_text.specs.declared.text.Text.{Text}
use Rattle.graphql_values.specs.InputValues.{Pair}

-- the fields with one more: a name that is there keeps its place and takes the value, and a new
-- name goes last
abbrev pub with_field : {A : Type 0} → List (Text × A) → Text → A → List (Text × A)
with_field [] name given = (name, given) ∷ []
with_field (f ∷ fs) name given =
    if bytes_eq name f.0 then (f.0, given) ∷ fs else f ∷ with_field fs name given

-- the fields by their names, each name once, with the value that stands last
abbrev pub by_name : {A : Type 0} → List (Pair A) → List (Text × A)
by_name pairs = fold (λ fields p. with_field fields p.0.item p.1.item) [] pairs
