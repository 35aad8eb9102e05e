use Rattle.std.proofs.Common.{List, take}
use Rattle.graphql_tree.specs.declared.document.Fragment.{Fragment}
use Rattle.graphql_merging.specs.Tables.{pieces_of}
use Rattle.graphql_bundles.specs.Going.{stage_of}
use Rattle.graphql_bundles.specs.Steps.{Goes}
use Rattle.graphql_bundles.proofs.GoesLemmas.{EachBegun, MayEach}
use Rattle.graphql_bundles.proofs.parts.begin_each.Given as goal

-- the parts so far
abbrev pub invariant-loop-name : goal.invariant-loop-name
invariant-loop-name g l = (fragments : List (Fragment g.row.S.Denot))
    → Goes (λ e. ⊥) (MayEach (pieces_of fragments l.table) fragments l.group l.names) (EachBegun (pieces_of fragments l.table) fragments l.group (take l.name-index l.names))
    (stage_of l.initial.progress) (stage_of l.progress)
