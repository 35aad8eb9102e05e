-- The line that tells which member of a file has not its shape, and what is wanted there. The member
-- stands as a path of JSON (RFC 9535), items counted from zero: `$.types[0].fields[1].name`.
use Rattle.std.specs.Prelude.{◌++◌, ℕ, [], Option, Some, None, codes}
use Rattle.std.specs.Fmt.{decimal}
use Rattle.graphql_names.specs.Names.{Bytes}
use Rattle.graphql_schema_files.specs.ShapeFaults.{key_of}
use Rattle.graphql_schema_files.specs.declared.wanted.Member.{Member}
use Rattle.graphql_schema_files.specs.declared.wanted.ShapeFault.{ShapeFault}
use Rattle.graphql_schema_files.specs.declared.wanted.Wanted.{Wanted}
use Rattle.graphql_schema_files.specs.declared.wanted.Wanted.TheVariants as wanted

-- what is wanted
abbrev pub wanted_text : Wanted → Bytes
wanted_text wanted.Object = codes "an object"
wanted_text wanted.List = codes "a list"
wanted_text wanted.Text = codes "a text"
wanted_text wanted.Kind = codes "\"object\", \"interface\" or \"union\""

-- the path of the file, of a type, of a field, or of an argument
abbrev pub path_text : Option ℕ → Option ℕ → Option ℕ → Bytes
path_text None field argument = codes "$"
path_text (Some at) None argument = codes "$.types[" ++ decimal at ++ codes "]"
path_text (Some at) (Some field) None =
    codes "$.types[" ++ decimal at ++ codes "].fields[" ++ decimal field ++ codes "]"
path_text (Some at) (Some field) (Some argument) =
    codes "$.types[" ++ decimal at ++ codes "].fields[" ++ decimal field ++ codes "].args["
    ++ decimal argument ++ codes "]"

-- the step to a member, and to an item of its list of names
abbrev pub member_text : Option Member → Option ℕ → Bytes
member_text None name = []
member_text (Some m) None = codes "." ++ key_of m
member_text (Some m) (Some name) = codes "." ++ key_of m ++ codes "[" ++ decimal name ++ codes "]"

-- the line of a fault
abbrev pub shape_text : ShapeFault → Bytes
shape_text fault = path_text fault.type_index fault.field_index fault.argument_index
    ++ member_text fault.member fault.name_index
    ++ codes ": "
    ++ wanted_text fault.wanted
    ++ codes " is wanted"
