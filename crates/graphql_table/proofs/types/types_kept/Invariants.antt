use Rattle.std.proofs.Common.{◌≡◌, take, map}
use Rattle.graphql_table.specs.TableTypes.{table_type}
use Rattle.graphql_table.proofs.types.types_kept.Given as goal

abbrev pub invariant-types : goal.invariant-types
invariant-types g l = l.kept ≡ map (λ m. table_type l.schema.types m.now) (take l.meta-index l.types)
