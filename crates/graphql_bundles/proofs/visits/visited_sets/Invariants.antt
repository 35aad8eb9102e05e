use Rattle.std.proofs.Common.{List, take}
use Rattle.graphql_tree.specs.declared.document.Fragment.{Fragment}
use Rattle.graphql_merging.specs.Tables.{pieces_of}
use Rattle.graphql_bundles.specs.Direct.{IsWalked}
use Rattle.graphql_bundles.proofs.visits.visited_sets.Given as goal

-- those that were looked at so far
abbrev pub invariant-loop-index : goal.invariant-loop-index
invariant-loop-index g l = (fragments : List (Fragment g.row.S.Denot))
    → IsWalked (pieces_of {C = g.row.C.Denot} fragments l.table) l.definitions (take l.index l.sets.keys) l.sets.keys
