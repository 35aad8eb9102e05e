use Rattle.std.proofs.Common.{◌&&◌, arith}
use Rattle.graphql_names.specs.Names.{is_named}
use Rattle.graphql_schema.specs.Faults.{is_bad_one_of}
use Rattle.graphql_schema.specs.Lookups.{own_name}
use Rattle.graphql_schema.proofs.FaultsFound.{none_in_all}
use Rattle.graphql_schema.proofs.faults.one_of.bad_one_of.Goals as goal

pub returns : goal.returns
returns g c = none_in_all (λ m name. is_named own_name name m && is_bad_one_of m) c.args.types.now c.types.meta-index (omega arith) c.types.invariant
