-- A law of where the faults of a file of records stand.
use Rattle.std.specs.Prelude.{◌≡◌, List, Option, Err, IsSome}
use Rattle.graphql_names.specs.Names.{Bytes}
use Rattle.graphql_records.specs.declared.table_type.TableType.{TableType}
use Rattle.graphql_data_files.specs.DataFiles.{read_of}
use Rattle.graphql_data_files.specs.RecordPlaces.{IsPlace}
use Rattle.graphql_data_files.specs.declared.data_file_error.DataFileError.{DataFileError}
use Rattle.graphql_data_files.specs.declared.data_file_error.DataFileError.TheVariants as fault
use Rattle.graphql_data_files.specs.declared.record_place.RecordPlace.{RecordPlace}

-- a fault that stands at a member, at a record, or at the root's id
abbrev pub HasPlace : DataFileError → Type 0
HasPlace fault.NotJson = ⊥
HasPlace fault.Memory = ⊥
HasPlace _ = Unit {0}

-- where it is the first fault of a file, its place is found
abbrev pub ToldFaultsHavePlaces : Type 0
ToldFaultsHavePlaces =
    (types : List TableType) (query bytes : Bytes) (e : DataFileError) (found : Option RecordPlace)
    → HasPlace e → read_of types query bytes ≡ Err e → IsPlace types e bytes found
    → IsSome found
