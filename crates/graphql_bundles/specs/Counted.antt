-- How many times two fields are compared.
use Rattle.std.specs.Prelude.{ℕ, ◌+◌, ◌-◌, ◌^◌, min, List, length, filter, Some}
use Rattle.std.specs.List.{sum_by}
use Rattle.graphql_names.specs.Names.{Bytes}
use Rattle.graphql_merging.specs.declared.table.SetTable.{SetTable}
use Rattle.graphql_merging.specs.declared.table.WrittenField.{WrittenField}
use Rattle.graphql_bundles.specs.Groups.{KeyGroup, fields_in, is_of}
use Rattle.graphql_bundles.specs.declared.outcome.Outcome.{Outcome}
use Rattle.graphql_bundles.specs.declared.outcome.Outcome.TheVariants as outcome

-- one time more; the count stays at the greatest number once it is there
abbrev pub one_more : ℕ → ℕ
one_more n = min (n + 1) (2 ^ 128 - 1)

module _ {S C : Type 0} where
  -- the fields of some groups
  abbrev pub fields_of_groups : List (KeyGroup S C) → ℕ
  fields_of_groups = sum_by (λ g. length g.1)

  -- the fields that stand directly in some sets of a table
  abbrev pub fields_of_sets : SetTable S C → List ℕ → ℕ
  fields_of_sets table = sum_by (λ number. length (fields_in table number))

  -- the fields of some groups, the first of each aside
  abbrev pub repeats_in_groups : List (KeyGroup S C) → ℕ
  repeats_in_groups = sum_by (λ g. length g.1 - 1)

  -- the fields of the parts of these names
  abbrev pub fields_of_parts : List (WrittenField S C) → List Bytes → ℕ
  fields_of_parts group = sum_by (λ name. length (filter (is_of (Some name)) group))

  -- the same, the first of each aside
  abbrev pub repeats_in_parts : List (WrittenField S C) → List Bytes → ℕ
  repeats_in_parts group = sum_by (λ name. length (filter (is_of (Some name)) group) - 1)

-- what the direct fields may take besides, where something is told
abbrev pub direct_of : Outcome → ℕ → ℕ
direct_of (outcome.Told errors) most = most
direct_of outcome.Undecided most = 0
