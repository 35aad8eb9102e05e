use Rattle.std.proofs.Common.{sym}
use Rattle.graphql_schema_files.specs.ShapeFaults.{argument_fault, in_argument}
use Rattle.graphql_schema_files.proofs.ShapeTurns.{fault_first, fault_nowhere, fault_turn}
use Rattle.graphql_schema_files.proofs.misshapen.first_argument.Goals as goal

pub returns-in-Some : goal.returns-in-Some
returns-in-Some c =
    sym (fault_first in_argument argument_fault _ c.args.items.now c.items.place c.index-items-place.result c.argument_fault.result c.in-Some.fault c.items-test.true c.index-items-place.is c.argument_fault.ensures c.in-Some.is c.items.invariant)

pub items-preserved : goal.items-preserved
items-preserved c =
    fault_turn in_argument argument_fault _ c.args.items.now c.items.place c.index-items-place.result c.argument_fault.result c.items-test.true c.index-items-place.is c.argument_fault.ensures c.in-None.is c.items.invariant

pub returns : goal.returns
returns c = sym (fault_nowhere in_argument argument_fault _ c.args.items.now c.items.place c.items-test.false c.items.invariant)
