use Rattle.std.proofs.Common.{sym}
use Rattle.graphql_data_files.proofs.ShapeFaults.{fault_first, fault_nowhere, fault_turn}
use Rattle.graphql_data_files.proofs.misshapen.first_fault.Goals as goal

pub returns-in-Some : goal.returns-in-Some
returns-in-Some c =
    sym (fault_first _ c.args.items.now c.items.at c.index-items-at.result _ c.in-Some.place c.items-test.true c.index-items-at.is c.in_ok-place.ensures c.in-Some.is c.items.invariant)

pub items-preserved : goal.items-preserved
items-preserved c =
    fault_turn _ c.args.items.now c.items.at c.index-items-at.result _ c.items-test.true c.index-items-at.is c.in_ok-place.ensures c.in-None.is c.items.invariant

pub returns : goal.returns
returns c = sym (fault_nowhere _ c.args.items.now c.items.at c.items-test.false c.items.invariant)
