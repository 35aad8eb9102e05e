use Rattle.std.proofs.Common.{◌≡◌}
use Rattle.graphql_schema.specs.Completed.{completed}
use Rattle.graphql_schema.proofs.introspection.completed.Given as goal

-- the types so far are those of the metadata so far
abbrev pub invariant-metadata : goal.invariant-metadata
invariant-metadata g l = l.types ≡ completed l.yielded l.query
