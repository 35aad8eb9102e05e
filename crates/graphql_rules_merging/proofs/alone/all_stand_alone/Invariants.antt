use Rattle.std.proofs.Common.{ℕ, ◌<◌, get_or}
use Rattle.graphql_merging.specs.declared.table.WrittenSet.{WrittenSet}
use Rattle.graphql_rules_merging.specs.Alone.{SetStandsAlone}
use Rattle.graphql_rules_merging.proofs.alone.all_stand_alone.Given as goal

-- the sets so far
abbrev pub invariant-loop-set : goal.invariant-loop-set
invariant-loop-set g l = (k : ℕ) → k < l.set-index → (d : WrittenSet g.row.S.Denot g.row.C.Denot) → SetStandsAlone (get_or l.table.sets k d)
