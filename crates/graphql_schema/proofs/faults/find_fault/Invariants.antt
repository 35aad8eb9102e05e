use Rattle.std.proofs.Common.{take, All}
use Rattle.graphql_schema.specs.Faults.{Roots, order, IsAbsent}
use Rattle.graphql_schema.proofs.faults.find_fault.Given as goal

-- no fault of the kinds so far stands
abbrev pub invariant-kinds : goal.invariant-kinds
invariant-kinds g l =
    let roots : Roots = record { query = l.query; mutation = l.mutation; subscription = l.subscription } in
    All (IsAbsent l.types roots) (take l.kind-index order)
