-- What the refusals of the steps below are, of a file.
use Rattle.graphql_lines.specs.declared.refusal.LineRefusal.{LineRefusal}
use Rattle.graphql_lines.specs.declared.refusal.LineRefusal.TheVariants as refusal
use Rattle.graphql_schema.specs.declared.error.SchemaError.{SchemaError}
use Rattle.graphql_schema.specs.declared.error.SchemaError.TheVariants as error
use Rattle.graphql_schema_files.specs.declared.schema_file_error.SchemaFileError.{SchemaFileError}
use Rattle.graphql_schema_files.specs.declared.schema_file_error.SchemaFileError.TheVariants as
    fault

-- a fault of the types, or want of memory
abbrev pub refusal_of : SchemaError → SchemaFileError
refusal_of error.Memory = fault.Memory
refusal_of (error.DuplicateName name) = fault.Schema (error.DuplicateName name)
refusal_of (error.MissingBuiltin name) = fault.Schema (error.MissingBuiltin name)
refusal_of (error.UnknownType name) = fault.Schema (error.UnknownType name)
refusal_of (error.NotOutputType name) = fault.Schema (error.NotOutputType name)
refusal_of (error.NotInputType name) = fault.Schema (error.NotInputType name)
refusal_of (error.BadRoot name) = fault.Schema (error.BadRoot name)
refusal_of (error.BadMember name) = fault.Schema (error.BadMember name)
refusal_of (error.BadOneOf name) = fault.Schema (error.BadOneOf name)

-- the same of the refusal of JSON
abbrev pub fault_of : LineRefusal → SchemaFileError
fault_of refusal.Memory = fault.Memory
fault_of refusal.LineTooLong = fault.NotJson
fault_of refusal.NotARequest = fault.NotJson
fault_of refusal.BadNumber = fault.NotJson
