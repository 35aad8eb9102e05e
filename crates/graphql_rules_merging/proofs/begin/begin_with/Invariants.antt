use Rattle.std.proofs.Common.{List, take}
use Rattle.graphql_tree.specs.declared.document.Fragment.{Fragment}
use Rattle.graphql_merging.specs.Tables.{pieces_of}
use Rattle.graphql_rules_merging.specs.Agenda.{listed_of, pair_of, PairOf, ListsPairs}
use Rattle.graphql_rules_merging.proofs.begin.begin_with.Given as goal

-- the numbers so far
abbrev pub invariant-loop-number : goal.invariant-loop-number
invariant-loop-number g l = (fragments : List (Fragment g.row.S.Denot))
    → ListsPairs (pieces_of {C = g.row.C.Denot} fragments l.table) (PairOf (λ number. pair_of number l.other l.around) (λ number. Unit {0}) (take l.number-index l.numbers))
    (PairOf (λ number. pair_of number l.other l.around) (λ number. Unit {0}) (take l.number-index l.numbers)) (listed_of l.initial.agenda) (listed_of l.agenda)
