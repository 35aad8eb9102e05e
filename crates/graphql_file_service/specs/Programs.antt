-- What programs over files have in common: the words behind their names, and their exit statuses.
use Rattle.std.specs.Prelude.{ℕ, String}
use Rattle.std.specs.declared.alloc.Global.{Global}
use Rattle.graphql_schema_files.specs.declared.schema_file_error.SchemaFileError.{SchemaFileError}
use Rattle.graphql_schema_files.specs.declared.schema_file_error.SchemaFileError.TheVariants as
    schema_fault
use Rattle.graphql_data_files.specs.declared.data_file_error.DataFileError.{DataFileError}
use Rattle.graphql_data_files.specs.declared.data_file_error.DataFileError.TheVariants as data_fault
use Rattle.graphql_streams.specs.declared.serve_error.ServeError.{ServeError}
use Rattle.graphql_streams.specs.declared.serve_error.ServeError.TheVariants as serve_error
use Rattle.graphql_file_service.specs.declared.run_fault.RunFault.{RunFault}
use Rattle.graphql_file_service.specs.declared.run_fault.RunFault.TheVariants as fault

abbrev pub Word : Type 0
Word = String Global

-- a file that is bad is told by 1, a read or a write that failed by 3, and want of memory by 4
abbrev pub status_of_schema : SchemaFileError → ℕ
status_of_schema schema_fault.Memory = 4
status_of_schema _ = 1

abbrev pub status_of_data : DataFileError → ℕ
status_of_data data_fault.Memory = 4
status_of_data _ = 1

abbrev pub status_of_error : ServeError → ℕ
status_of_error serve_error.Memory = 4
status_of_error _ = 3

-- of a run that ended so
abbrev pub status_of_fault : RunFault → ℕ
status_of_fault (fault.Schema e) = status_of_schema e
status_of_fault fault.NotExecutable = 1
status_of_fault fault.OtherBoolean = 1
status_of_fault (fault.Data e) = status_of_data e
status_of_fault (fault.Serve e) = status_of_error e
status_of_fault fault.Memory = 4
