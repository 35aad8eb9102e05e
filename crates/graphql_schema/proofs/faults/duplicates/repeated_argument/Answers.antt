use Rattle.std.proofs.Common.{map, arith}
use Rattle.graphql_schema.specs.Types.{arguments_of}
use Rattle.graphql_names.specs.Names.{stands_twice}
use Rattle.graphql_schema.proofs.FaultsFound.{none-turn, none_in_all}
use Rattle.graphql_names.proofs.Repeats.{none_twice}
use Rattle.graphql_schema.proofs.faults.duplicates.repeated_argument.Goals as goal

pub fields-preserved : goal.fields-preserved
fields-preserved g c =
    none-turn (λ field name. stands_twice (map (λ argument. argument.name) (arguments_of field)) name) c.args.fields.now c.fields.field-index c.field-item.result
    c.fields-test.true c.field-item.is c.fields.invariant
    (none_twice (λ argument. argument.name) c.arguments.result.now (arguments_of c.field-item.result) c.arguments.ensures c.in_ok-name.field-0 c.in_ok-name.ensures c.in_default.is)

pub returns : goal.returns
returns g c =
    none_in_all (λ field name. stands_twice (map (λ argument. argument.name) (arguments_of field)) name) c.args.fields.now c.fields.field-index (omega arith) c.fields.invariant
