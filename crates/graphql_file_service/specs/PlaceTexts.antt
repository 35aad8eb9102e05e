-- The line that tells where in the files a fault stands: names and ids stand between quotes as they
-- are, nothing in them is escaped.
use Rattle.std.specs.Prelude.{◌++◌, Option, Some, None, codes}
use Rattle.std.specs.Fmt.{decimal}
use Rattle.graphql_names.specs.Names.{Bytes}
use Rattle.graphql_data_files.specs.PlaceTexts.{record_place_text}
use Rattle.graphql_schema_files.specs.ShapeTexts.{shape_text}
use Rattle.graphql_schema_files.specs.declared.declaration_place.FieldPlace.{FieldPlace}
use Rattle.graphql_file_service.specs.declared.fault_place.FaultPlace.{FaultPlace}
use Rattle.graphql_file_service.specs.declared.fault_place.FaultPlace.TheVariants as place

-- an argument of a field of a type, if it is one
abbrev pub argument_text : Bytes → Bytes → Option Bytes → Bytes
argument_text of_type field None =
    codes "type \"" ++ (of_type ++ (codes "\", field \"" ++ (field ++ codes "\"")))
argument_text of_type field (Some argument) =
    codes "type \"" ++ (of_type ++ (codes "\", field \"" ++ (field
    ++ (codes "\", argument \"" ++ (argument ++ codes "\"")))))

-- a field of a type, if it is one, or its argument
abbrev pub declaration_text : Bytes → Option FieldPlace → Bytes
declaration_text of_type None = codes "type \"" ++ of_type ++ codes "\""
declaration_text of_type (Some field) = argument_text of_type field.name field.argument

-- what a type lacks of an interface that it lists
abbrev pub promise_text : Bytes → Bytes → Option Bytes → Bytes
promise_text of_type interface None =
    codes "type \"" ++ (of_type ++ (codes "\", interface \"" ++ (interface ++ codes "\"")))
promise_text of_type interface (Some field) =
    codes "type \"" ++ (of_type ++ (codes "\", interface \"" ++ (interface
    ++ (codes "\", field \"" ++ (field ++ codes "\"")))))

-- the line of a place
abbrev pub place_text : FaultPlace → Bytes
place_text (place.Json at) =
    codes "line " ++ decimal at.line ++ codes ", column " ++ decimal at.column
place_text (place.Shape fault) = shape_text fault
place_text (place.Declaration at) = declaration_text at.type_name at.field
place_text (place.Promise at) = promise_text at.type_name at.interface at.field
place_text (place.Record at) = record_place_text at
