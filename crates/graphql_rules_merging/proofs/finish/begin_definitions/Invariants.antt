use Rattle.std.proofs.Common.{◌≡◌, ℕ, ◌<◌, List, false}
use Rattle.graphql_tree.specs.declared.document.Fragment.{Fragment}
use Rattle.graphql_merging.specs.Tables.{pieces_of}
use Rattle.graphql_rules_merging.specs.Agenda.{listed_of, pair_of, ListsPairs}
use Rattle.graphql_rules_merging.proofs.finish.begin_definitions.Given as goal

-- the definitions so far
abbrev pub invariant-loop-definition : goal.invariant-loop-definition
invariant-loop-definition g l = (fragments : List (Fragment g.row.S.Denot))
    → ListsPairs (pieces_of {C = g.row.C.Denot} fragments l.table) (λ pair. (k : ℕ) × (k < l.definition) × (pair ≡ pair_of k k false))
    (λ pair. (k : ℕ) × (k < l.definition) × (pair ≡ pair_of k k false)) (listed_of l.initial.agenda) (listed_of l.agenda)
