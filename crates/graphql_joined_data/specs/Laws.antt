-- Laws of joined data (GraphQL October 2021, 6.4.3 Value Completion, MergeSelectionSets).
use Rattle.std.specs.Prelude.{Bool, List}
use Rattle.graphql_names.specs.Names.{Bytes}
use Rattle.graphql_output_values.specs.declared.value.Value.{Value}
use Rattle.graphql_joined_data.specs.Differences.{DifferAt}
use Rattle.graphql_joined_data.specs.Joining.{HaveNoJoin}

-- data that differ somewhere have no join
abbrev pub DifferingHaveNoJoin : {S : Type 0} → (S → S → Bool) → Type 0
DifferingHaveNoJoin {S} same =
    (path : List Bytes) (first second : Value S) → DifferAt same path first second
    → HaveNoJoin first second
