-- How many times two fields are compared where pairs of selection sets are.
use Rattle.std.specs.Prelude.{ℕ, ◌*◌, nat_eq, length, if◌then◌else◌}
use Rattle.graphql_merging.specs.declared.table.SetTable.{SetTable}
use Rattle.graphql_bundles.specs.Groups.{fields_in}
use Rattle.graphql_rules_merging.specs.declared.agenda.SetPair.{SetPair}

module _ {S C : Type 0} (table : SetTable S C) where
  -- how many fields stand directly in a set
  abbrev pub field_count_at : ℕ → ℕ
  field_count_at number = length (fields_in table number)

  -- twice the comparisons of two sets, at most: one set with itself has each two fields once
  abbrev pub twice_compared : SetPair → ℕ
  twice_compared pair =
      if nat_eq pair.left pair.right then field_count_at pair.left * field_count_at pair.left
      else 2 * (field_count_at pair.left * field_count_at pair.right)
