use Rattle.std.proofs.Common.{◌≡◌, false, map, take}
use Rattle.graphql_names.specs.Names.{Bytes}
use Rattle.graphql_schema.specs.Demands.{misses}
use Rattle.graphql_schema.proofs.faults.references.unmet_among.Given as goal

-- the type of no name so far is not what is asked for
abbrev pub invariant-items : goal.invariant-items
invariant-items g l = (name : Bytes) → misses l.wanted l.types (map g.T.Reference.reference_of (take l.item-index l.items)) name ≡ false
