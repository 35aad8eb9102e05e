use Rattle.std.proofs.Common.{List}
use Rattle.graphql_tree.specs.declared.document.Fragment.{Fragment}
use Rattle.graphql_merging.specs.Tables.{pieces_of}
use Rattle.graphql_bundles.specs.Going.{stage_of}
use Rattle.graphql_bundles.specs.Held.{HoldsEach}
use Rattle.graphql_bundles.specs.Steps.{Goes, OfDefinitions}
use Rattle.graphql_bundles.proofs.definitions.begin_others.Given as goal

-- the definitions so far
abbrev pub invariant-loop-definition : goal.invariant-loop-definition
invariant-loop-definition g l = (fragments : List (Fragment g.row.S.Denot))
    → Goes (λ e. ⊥) (OfDefinitions (pieces_of fragments l.table) l.definitions)
    (HoldsEach (pieces_of fragments l.table) l.definition-counter l.spread.keys l.initial.held.keys l.held.keys) (stage_of l.initial.progress) (stage_of l.progress)
