use Rattle.std.proofs.Common.{◌≡◌, false, map, take}
use Rattle.std.specs.List.{flat_map}
use Rattle.graphql_schema.specs.Types.{arguments_of}
use Rattle.graphql_names.specs.Names.{Bytes}
use Rattle.graphql_schema.specs.Lookups.{argument_type_name}
use Rattle.graphql_schema.specs.Demands.{misses}
use Rattle.graphql_schema.proofs.faults.references.unmet_argument.Given as goal

-- the type of no argument of a field so far is not what is asked for
abbrev pub invariant-fields : goal.invariant-fields
invariant-fields g l = (name : Bytes) → misses l.wanted l.types (flat_map (λ field. map argument_type_name (arguments_of field)) (take l.field-index l.fields)) name ≡ false
