-- What the refusal of JSON is, of a file.
use Rattle.graphql_lines.specs.declared.refusal.LineRefusal.{LineRefusal}
use Rattle.graphql_lines.specs.declared.refusal.LineRefusal.TheVariants as refusal
use Rattle.graphql_data_files.specs.declared.data_file_error.DataFileError.{DataFileError}
use Rattle.graphql_data_files.specs.declared.data_file_error.DataFileError.TheVariants as fault

abbrev pub fault_of : LineRefusal → DataFileError
fault_of refusal.Memory = fault.Memory
fault_of refusal.LineTooLong = fault.NotJson
fault_of refusal.NotARequest = fault.NotJson
fault_of refusal.BadNumber = fault.NotJson
