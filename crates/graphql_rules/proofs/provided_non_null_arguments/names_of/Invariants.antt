use Rattle.std.proofs.Common.{◌≡◌, ℕ, List, map, take}
use Rattle.graphql_names.specs.NameSets.{has_name}
use Rattle.graphql_names.specs.Names.{is_one_of}
use Rattle.graphql_tree.specs.Arguments.{Argument}
use Rattle.graphql_rules.proofs.provided_non_null_arguments.names_of.Given as goal

-- the set has the names so far
abbrev pub invariant-arguments : goal.invariant-arguments
invariant-arguments g l = (q : List ℕ) → has_name l.names q ≡ is_one_of (map (λ (a : Argument g.row.S.Denot). a.0.item) (take l.argument-index l.arguments)) q
