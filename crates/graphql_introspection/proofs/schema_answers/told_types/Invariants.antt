use Rattle.std.proofs.Common.{◌≡◌, map, take}
use Rattle.graphql_introspection.specs.Told.{told_types}
use Rattle.graphql_introspection.proofs.schema_answers.told_types.Given as goal

abbrev pub invariant-types : goal.invariant-types
invariant-types g l = map (λ m. m.now) l.told ≡ told_types (map (λ m. m.now) (take l.meta-index l.types))
