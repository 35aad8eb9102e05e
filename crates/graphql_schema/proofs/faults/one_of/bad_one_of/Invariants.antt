use Rattle.std.proofs.Common.{◌≡◌, ◌&&◌, false, take}
use Rattle.std.specs.List.{list_any}
use Rattle.graphql_names.specs.Names.{Bytes, is_named}
use Rattle.graphql_schema.specs.Faults.{is_bad_one_of}
use Rattle.graphql_schema.specs.Lookups.{own_name}
use Rattle.graphql_schema.proofs.faults.one_of.bad_one_of.Given as goal

-- no type so far is one
abbrev pub invariant-types : goal.invariant-types
invariant-types g l = (name : Bytes) → list_any (λ m. is_named own_name name m && is_bad_one_of m) (take l.meta-index l.types) ≡ false
