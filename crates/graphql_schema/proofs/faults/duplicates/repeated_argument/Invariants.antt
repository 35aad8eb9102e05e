use Rattle.std.proofs.Common.{◌≡◌, false, map, take}
use Rattle.std.specs.List.{list_any}
use Rattle.graphql_schema.specs.Types.{arguments_of}
use Rattle.graphql_names.specs.Names.{Bytes, stands_twice}
use Rattle.graphql_schema.proofs.faults.duplicates.repeated_argument.Given as goal

-- no field so far has two arguments of one name
abbrev pub invariant-fields : goal.invariant-fields
invariant-fields g l = (name : Bytes) → list_any (λ field. stands_twice (map (λ argument. argument.name) (arguments_of field)) name) (take l.field-index l.fields) ≡ false
