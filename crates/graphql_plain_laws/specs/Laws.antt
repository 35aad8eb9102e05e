-- What merging and execution take from plain selection sets (GraphQL October 2021, 5.3.2 Field
-- Selection Merging, 6.3 Executing Selection Sets).
use Rattle.std.specs.Prelude.{◌≡◌, Bool, List, map}
use Rattle.graphql_names.specs.Names.{Bytes}
use Rattle.graphql_schema.specs.declared.meta.MetaType.{MetaType}
use Rattle.graphql_written_out.specs.Trees.{Directives, Tree}
use Rattle.graphql_merging.specs.Members.{Scope, members}
use Rattle.graphql_merging.specs.Merging.{Merging}
use Rattle.graphql_semantics.specs.Engines.{Engine}
use Rattle.graphql_semantics.specs.Evaluation.{evaluate}
use Rattle.graphql_plain_tree.specs.Laws.{Fit}
use Rattle.graphql_plain_tree.specs.Plain.{plain}

-- where a set merges its plain set does
abbrev pub PlainMerges : (S C : Type 0) → (S → S → Bool) → Type 0
PlainMerges S C eq = (types : List (MetaType S C)) (drops : Directives S → Bool)
    (stand_in : Directives S) (scope : Scope S C) (set : Tree S)
    → Merging eq types (members types scope set)
    → Merging eq types (members types scope (plain drops stand_in set))

-- plain sets give the same value and the same failures
abbrev pub PlainGivesTheSame : Type 0 → Type 0 → Type 0
PlainGivesTheSame S N = (e : Engine S N) (stand_in : Directives S) → Fit e.drops stand_in
    → (path : List Bytes) (object : Bytes) (node : N) (sets : List (Tree S))
    → evaluate e path object node (map (plain e.drops stand_in) sets)
    ≡ evaluate e path object node sets
