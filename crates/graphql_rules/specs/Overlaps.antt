-- Whether two types have a possible type in common, by their names (GraphQL October 2021, 5.5.2.3
-- Fragment Spread Is Possible).
use Rattle.std.specs.Prelude.{Bool, ◌&&◌}
use Rattle.std.specs.Borrow.{Bor}
use Rattle.std.specs.Str.{bytes_eq}
use Rattle.graphql_names.specs.Names.{Bytes, passes}
use Rattle.graphql_occurrences.specs.Lookups.{known}
use Rattle.graphql_rules.specs.PossibleFragmentSpreads.{is_apart}
use Rattle.graphql_schema.specs.Declarations.{Declarations}

-- both names are those of types, which have no possible type in common
abbrev pub are_apart : {S C : Type 0} → Declarations S C → Bytes → Bytes → Bool
are_apart schema parent condition = passes (λ m. is_apart schema m condition) (known schema parent)

-- the names of two types are those of two others
abbrev pub are_same : Bor Bytes × Bor Bytes → Bor Bytes × Bor Bytes → Bool
are_same names others = bytes_eq names.0.now others.0.now && bytes_eq names.1.now others.1.now
