use Rattle.std.proofs.Common.{◌≡◌, ℕ, List, map, take}
use Rattle.graphql_names.specs.Names.{is_one_of}
use Rattle.graphql_values.specs.declared.input_value.InputValue.{InputValue}
use Rattle.graphql_values.specs.InputValues.{Pair}
use Rattle.graphql_names.specs.NameSets.{has_name}
use Rattle.graphql_literal_checks.proofs.input_fields.names_of.Given as goal

-- the set has the names so far
abbrev pub invariant-pairs : goal.invariant-pairs
invariant-pairs g l = (q : List ℕ) → has_name l.names q ≡ is_one_of (map (λ (p : Pair (InputValue g.row.S.Denot)). p.0.item) (take l.pair-index l.pairs)) q
