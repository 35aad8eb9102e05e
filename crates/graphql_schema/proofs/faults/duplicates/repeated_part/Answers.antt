use Rattle.std.proofs.Common.{arith}
use Rattle.std.specs.List.{list_any}
use Rattle.graphql_names.specs.Names.{stands_twice}
use Rattle.graphql_schema.specs.Faults.{scopes_of}
use Rattle.graphql_schema.proofs.FaultsFound.{none_in_all}
use Rattle.graphql_schema.proofs.faults.duplicates.repeated_part.Goals as goal

pub returns : goal.returns
returns g c =
    none_in_all (λ m name. list_any (λ names. stands_twice names name) (scopes_of m)) c.args.types.now c.types.meta-index (omega arith) c.types.invariant
