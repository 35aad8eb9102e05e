-- Items that are looked up by their names.
use Rattle.std.specs.Prelude.{◌≡◌, List, true}
use Rattle.graphql_names.specs.Names.{Bytes, stands_twice}
use Rattle.graphql_names.specs.declared.name_map.NameMapError.{NameMapError}
use Rattle.graphql_names.specs.declared.name_map.NameMapError.TheVariants as error

-- the error is a name that stands twice, or that there was no memory to tell one
abbrev pub IsRepeat : List Bytes → NameMapError → Type 0
IsRepeat names (error.Repeated name) = stands_twice names name ≡ true
IsRepeat names error.Memory = (name : Bytes) × (stands_twice names name ≡ true)
