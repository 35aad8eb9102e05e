use Rattle.std.proofs.Common.{◌≡◌, map, take}
use Rattle.std.specs.List.{filter_map}
use Rattle.graphql_schema.specs.Lookups.{type_named}
use Rattle.graphql_introspection.proofs.type_answers.types_of_names.Given as goal

abbrev pub invariant-names : goal.invariant-names
invariant-names g l = map (λ m. m.now) l.found ≡ filter_map (type_named l.schema.types) (take l.name-index l.names)
