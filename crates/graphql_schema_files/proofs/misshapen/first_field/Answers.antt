use Rattle.std.proofs.Common.{sym}
use Rattle.graphql_schema_files.specs.ShapeFaults.{field_fault, in_field}
use Rattle.graphql_schema_files.proofs.ShapeTurns.{fault_first, fault_nowhere, fault_turn}
use Rattle.graphql_schema_files.proofs.misshapen.first_field.Goals as goal

pub returns-in-Some : goal.returns-in-Some
returns-in-Some c =
    sym (fault_first in_field field_fault _ c.args.items.now c.items.place c.index-items-place.result c.field_fault.result c.in-Some.fault c.items-test.true c.index-items-place.is c.field_fault.ensures c.in-Some.is c.items.invariant)

pub items-preserved : goal.items-preserved
items-preserved c =
    fault_turn in_field field_fault _ c.args.items.now c.items.place c.index-items-place.result c.field_fault.result c.items-test.true c.index-items-place.is c.field_fault.ensures c.in-None.is c.items.invariant

pub returns : goal.returns
returns c = sym (fault_nowhere in_field field_fault _ c.args.items.now c.items.place c.items-test.false c.items.invariant)
