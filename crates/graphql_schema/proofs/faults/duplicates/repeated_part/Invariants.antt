use Rattle.std.proofs.Common.{◌≡◌, false, take}
use Rattle.std.specs.List.{list_any}
use Rattle.graphql_names.specs.Names.{Bytes, stands_twice}
use Rattle.graphql_schema.specs.Faults.{scopes_of}
use Rattle.graphql_schema.proofs.faults.duplicates.repeated_part.Given as goal

-- in no type so far does a name stand twice in a scope
abbrev pub invariant-types : goal.invariant-types
invariant-types g l = (name : Bytes) → list_any (λ m. list_any (λ names. stands_twice names name) (scopes_of m)) (take l.meta-index l.types) ≡ false
