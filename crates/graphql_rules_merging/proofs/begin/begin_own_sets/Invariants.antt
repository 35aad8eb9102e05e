use Rattle.std.proofs.Common.{List, take}
use Rattle.graphql_tree.specs.declared.document.Fragment.{Fragment}
use Rattle.graphql_merging.specs.Tables.{pieces_of}
use Rattle.graphql_rules_merging.specs.Agenda.{listed_of, pair_of, PairOf, ListsPairs}
use Rattle.graphql_rules_merging.proofs.begin.begin_own_sets.Given as goal

-- the fields so far
abbrev pub invariant-loop-field : goal.invariant-loop-field
invariant-loop-field g l = (fragments : List (Fragment g.row.S.Denot))
    → ListsPairs (pieces_of {C = g.row.C.Denot} fragments l.table) (PairOf (λ field. pair_of field.own field.own l.around) (λ field. Unit {0}) (take l.field-index l.fields))
    (PairOf (λ field. pair_of field.own field.own l.around) (λ field. Unit {0}) (take l.field-index l.fields)) (listed_of l.initial.agenda) (listed_of l.agenda)
