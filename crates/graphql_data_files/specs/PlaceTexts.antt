-- The text of a place: an id and a name stand between quotes as they are, nothing in them is
-- escaped. A member that has not its shape stands as a path of JSON (RFC 9535), records counted
-- from zero, and behind it what is wanted there.
use Rattle.std.specs.Prelude.{◌++◌, codes}
use Rattle.std.specs.Fmt.{decimal}
use Rattle.graphql_names.specs.Names.{Bytes}
use Rattle.graphql_data_files.specs.declared.record_place.RecordPlace.{RecordPlace}
use Rattle.graphql_data_files.specs.declared.record_place.RecordPlace.TheVariants as place
use Rattle.graphql_data_files.specs.declared.shape_place.ShapePlace.{ShapePlace}
use Rattle.graphql_data_files.specs.declared.shape_place.ShapePlace.TheVariants as shape

abbrev pub shape_place_text : ShapePlace → Bytes
shape_place_text shape.File = codes "$: an object is wanted"
shape_place_text shape.Roots = codes "$.roots: an object is wanted"
shape_place_text shape.Root = codes "$.roots.query: a text is wanted"
shape_place_text shape.Records = codes "$.records: a list is wanted"
shape_place_text (shape.Record at) =
    codes "$.records[" ++ decimal at ++ codes "]: an object is wanted"
shape_place_text (shape.Id at) = codes "$.records[" ++ decimal at ++ codes "].id: a text is wanted"
shape_place_text (shape.Type at) =
    codes "$.records[" ++ decimal at ++ codes "].type: a text is wanted"
shape_place_text (shape.Fields at) =
    codes "$.records[" ++ decimal at ++ codes "].fields: an object is wanted"
shape_place_text (shape.Field at name) =
    codes "$.records[" ++ (decimal at ++ (codes "].fields[\"" ++ (name
    ++ codes "\"]: a value or a list of values is wanted")))

abbrev pub record_place_text : RecordPlace → Bytes
record_place_text (place.Root id) = codes "root \"" ++ id ++ codes "\""
record_place_text (place.Record id) = codes "record \"" ++ id ++ codes "\""
record_place_text (place.Field id name) =
    codes "record \"" ++ id ++ codes "\", field \"" ++ name ++ codes "\""
record_place_text (place.Shape at) = shape_place_text at
