-- Where in the files the fault of a run stands.
use Rattle.std.specs.Prelude.{◌≡◌, Option, Some, None, Result, Ok, Err, option_map, IfSome, IsSome}
use Rattle.graphql_lines.specs.Request.{data_of}
use Rattle.graphql_names.specs.Names.{Bytes}
use Rattle.graphql_schema.specs.Implementations.{IsExecutable}
use Rattle.graphql_schema.specs.Promises.{IsFirstBroken}
use Rattle.graphql_schema.specs.Schemas.{roots_of}
use Rattle.graphql_schema.specs.declared.schema.promises.BrokenPromise.{BrokenPromise}
use Rattle.graphql_schema_files.specs.DeclarationPlaces.{IsPlace as IsDeclarationAt}
use Rattle.graphql_schema_files.specs.Outlines.{Outline, OutlinesBytes}
use Rattle.graphql_schema_files.specs.ShapeFaults.{fault_in}
use Rattle.graphql_schema_files.specs.declared.declaration_place.DeclarationPlace.{DeclarationPlace}
use Rattle.graphql_schema_files.specs.declared.schema_file_error.SchemaFileError.{SchemaFileError}
use Rattle.graphql_schema_files.specs.declared.schema_file_error.SchemaFileError.TheVariants as
    schema_fault
use Rattle.graphql_data_files.specs.RecordPlaces.{IsPlace as IsRecordAt}
use Rattle.graphql_data_files.specs.declared.data_file_error.DataFileError.{DataFileError}
use Rattle.graphql_data_files.specs.declared.data_file_error.DataFileError.TheVariants as data_fault
use Rattle.graphql_data_files.specs.declared.record_place.RecordPlace.{RecordPlace}
use Rattle.graphql_table.specs.TableTypes.{table_types}
use Rattle.graphql_file_service.specs.declared.fault_place.FaultPlace.{FaultPlace}
use Rattle.graphql_file_service.specs.declared.fault_place.FaultPlace.TheVariants as place
use Rattle.graphql_file_service.specs.declared.fault_place.PromisePlace.{PromisePlace}
use Rattle.graphql_file_service.specs.declared.placed_fault.PlacedFault.{PlacedFault}
use Rattle.graphql_file_service.specs.declared.run_fault.RunFault.{RunFault}
use Rattle.graphql_file_service.specs.declared.run_fault.RunFault.TheVariants as fault

-- bytes that are no JSON have a place, and no others; which it is, `serde_json` tells
abbrev pub IsJsonPlace : Bytes → Option FaultPlace → Type 0
IsJsonPlace bytes None = IsSome (data_of bytes)
IsJsonPlace bytes (Some (place.Json at)) = data_of bytes ≡ None
IsJsonPlace bytes (Some _) = ⊥

-- at a declaration of the schema's file, if the fault stands at one
abbrev pub IsDeclarationPlace : Bytes → SchemaFileError → Option FaultPlace → Type 0
IsDeclarationPlace file e found = (at : Option DeclarationPlace)
    × IsDeclarationAt e file at
    × (found ≡ option_map place.Declaration at)

-- at the member of the schema's file that has not its shape, if one has not
abbrev pub IsShapePlace : Bytes → Option FaultPlace → Type 0
IsShapePlace file found = found ≡ option_map place.Shape (fault_in file)

-- where the fault of the schema's file stands
abbrev pub IsSchemaPlace : Bytes → SchemaFileError → Option FaultPlace → Type 0
IsSchemaPlace file schema_fault.NotJson found = IsJsonPlace file found
IsSchemaPlace file schema_fault.BadShape found = IsShapePlace file found
IsSchemaPlace file e found = IsDeclarationPlace file e found

-- by the outline of the schema's file; nowhere where it has none
abbrev pub ByOutline : (Outline → Option FaultPlace → Type 0) → Option FaultPlace
    → Result Outline SchemaFileError → Type 0
ByOutline At found (Ok outline) = At outline found
ByOutline At found (Err e) = (found ≡ None) × (e ≡ schema_fault.Memory → ⊥)

-- so it is of the outline of the file of these bytes
abbrev pub IsByOutline : Bytes → (Outline → Option FaultPlace → Type 0) → Option FaultPlace → Type 0
IsByOutline file At found = (outlined : Result Outline SchemaFileError)
    × OutlinesBytes file outlined
    × ByOutline At found outlined

-- the promise that a place tells
abbrev pub promise_at : PromisePlace → BrokenPromise
promise_at at = record { type_name = at.type_name; interface = at.interface; field = at.field }

-- at the first promise that a type does not keep (3.6 Objects: Type Validation)
abbrev pub IsPromisePlace : Outline → Option FaultPlace → Type 0
IsPromisePlace outline None = IsExecutable outline.types (roots_of outline)
IsPromisePlace outline (Some (place.Promise at)) = IsFirstBroken outline.types (promise_at at)
IsPromisePlace outline (Some _) = ⊥

-- at a record, if the fault stands at one, by what a table keeps of the types
abbrev pub IsRecordPlace : Bytes → DataFileError → Outline → Option FaultPlace → Type 0
IsRecordPlace file e outline found = (at : Option RecordPlace)
    × IsRecordAt (table_types outline.types) e file at
    × (found ≡ option_map place.Record at)

-- where the fault of the file of records stands
abbrev pub IsDataPlace : Bytes → Bytes → DataFileError → Option FaultPlace → Type 0
IsDataPlace schema_file file data_fault.NotJson found = IsJsonPlace file found
IsDataPlace schema_file file e found = IsByOutline schema_file (IsRecordPlace file e) found

-- where in the two files the fault of a run stands; what is no fault of theirs stands nowhere
abbrev pub IsPlaceOf : Bytes → Bytes → RunFault → Option FaultPlace → Type 0
IsPlaceOf schema_file records_file (fault.Schema e) found = IsSchemaPlace schema_file e found
IsPlaceOf schema_file records_file fault.NotExecutable found =
    IsByOutline schema_file IsPromisePlace found
IsPlaceOf schema_file records_file (fault.Data e) found =
    IsDataPlace schema_file records_file e found
IsPlaceOf schema_file records_file fault.OtherBoolean found = found ≡ None
IsPlaceOf schema_file records_file (fault.Serve e) found = found ≡ None
IsPlaceOf schema_file records_file fault.Memory found = found ≡ None

-- the fault, and its place; where none is told, memory may have run out
abbrev pub IsPlaced : Bytes → Bytes → RunFault → PlacedFault → Type 0
IsPlaced schema_file records_file e placed =
    (placed.fault ≡ e)
    × IfSome placed.place (λ at. IsPlaceOf schema_file records_file e (Some at))
