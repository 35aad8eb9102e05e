-- Records, by their ids, and the one from which queries start.
use Rattle.std.specs.Prelude.{◌≡◌, ℕ, List, true, false, Option, Some, None, position}
use Rattle.std.specs.Map.{keys_of}
use Rattle.std.specs.Str.{bytes_eq}
use Rattle.graphql_names.specs.Names.{Bytes, stands_twice}
use Rattle.graphql_records.specs.declared.record.Record.{Record}

-- the records, by their ids, in order
abbrev pub Entries : Type 0
Entries = List (Bytes × Record)

-- with the place of the one from which queries start
pub record Table : Type 0 where
  pub entries : Entries
  pub root : ℕ

-- where the record of an id stands
abbrev pub record_index : Entries → Bytes → Option ℕ
record_index records id = position (bytes_eq id) (keys_of records)

-- the records, in order, queries starting from the first, where no id stands twice; none where one
-- does
abbrev pub IsTableOf : Entries → Option Table → Type 0
IsTableOf records (Some table) =
    (table ≡ record { entries = records; root = 0 })
    × ((id : Bytes) → stands_twice (keys_of records) id ≡ false)
IsTableOf records None = (id : Bytes) × (stands_twice (keys_of records) id ≡ true)
