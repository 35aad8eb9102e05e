-- What is left of the selection sets that a walk is in.
use Rattle.std.specs.Prelude.{List, drop, map, reverse}
use Rattle.graphql_tree.specs.declared.selection.Selection.{Selection}
use Rattle.graphql_collect.specs.declared.open_set.OpenSet.{OpenSet}

-- the innermost last
abbrev pub Open : Type 0 → Type 0
Open S = List (OpenSet S)

module _ {S : Type 0} where
  -- what is left of a set
  abbrev pub rest_of : OpenSet S → List (Selection S)
  rest_of set = drop set.next set.among.now

  -- the innermost first
  abbrev pub rests : Open S → List (List (Selection S))
  rests sets = map rest_of (reverse sets)
