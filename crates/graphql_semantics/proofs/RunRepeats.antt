-- What sets give that differ by repeats.
use Rattle.std.proofs.Common.{◌≡◌, List, map}
use Rattle.graphql_names.specs.Names.{Bytes}
use Rattle.graphql_written_out.specs.Trees.{Tree}
use Rattle.graphql_written_out.specs.Fields.{Found}
use Rattle.graphql_written_out.specs.Groups.{groups}
use Rattle.graphql_written_out.specs.Repeats.{Repeats}
use Rattle.graphql_semantics.specs.Engines.{Engine}
use Rattle.graphql_semantics.specs.Outcomes.{together}
use Rattle.graphql_semantics.specs.Evaluation.{evaluate, keyed, found_in}
use Rattle.graphql_semantics.specs.Laws.{DataOfGroups, RepeatsGiveNothing}
use Rattle.graphql_semantics.proofs.Depths.{outcomes}
use Rattle.graphql_semantics.proofs.Walks.{all-groups, all-repeats}

module _ {S N : Type 0} (e : Engine S N) where
  -- sets that differ by repeats give the same
  pub evaluate-repeats : (path : List Bytes) (object : Bytes) (node : N) (ys xs : List (Tree S)) → Repeats ys xs → evaluate e path object node ys ≡ evaluate e path object node xs
  evaluate-repeats = all-repeats e (outcomes e)

  -- the groups of what was collected, repeats left out, over what the sets below them give
  pub evaluate-groups : (path : List Bytes) (object : Bytes) (node : N) (sets : List (Tree S)) (ys : List (Found S)) → Repeats ys (found_in e object sets)
      → together (map (keyed e (evaluate e) path object node) (groups ys)) ≡ evaluate e path object node sets
  evaluate-groups = all-groups e (outcomes e)

pub data-of-groups : (S N : Type 0) → DataOfGroups S N
data-of-groups S N e path object node sets ys a = evaluate-groups e path object node sets ys a

pub repeats-give-nothing : (S N : Type 0) → RepeatsGiveNothing S N
repeats-give-nothing S N e path object node ys xs a = evaluate-repeats e path object node ys xs a
