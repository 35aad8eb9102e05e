-- What the words behind the program's name ask for.
use Rattle.std.specs.Prelude.{Bool, true, false, Option, Some, None, Result, Ok, Err, codes}
use Rattle.std.specs.Prelude.{if◌then◌else◌}
use Rattle.std.specs.Str.{bytes_eq}
use Rattle.std.specs.String.{string_bytes}
use Rattle.graphql_file_service.specs.Programs.{Word}
use Rattle.graphql_service_program.specs.declared.arguments.Arguments.{Arguments}
use Rattle.graphql_service_program.specs.declared.failure.Failure.{Failure}
use Rattle.graphql_service_program.specs.declared.failure.Failure.TheVariants.{Usage}

-- answers, or plain texts by the word `--plain`
abbrev pub asks_for_plain : Option Word → Result Bool Failure
asks_for_plain None = Ok false
asks_for_plain (Some word) =
    if bytes_eq (string_bytes word) (codes "--plain") then Ok true else Err Usage

abbrev pub over : Word → Word → Result Bool Failure → Result (Option Arguments) Failure
over schema records (Ok plain) =
    Ok (Some (record { schema = schema; records = records; plain = plain }))
over schema records (Err failure) = Err failure

-- two files and at most one word behind them, or the sample's where there is no word
abbrev pub program_arguments : Option Word → Option Word → Option Word → Option Word
    → Result (Option Arguments) Failure
program_arguments None records word more = Ok None
program_arguments (Some schema) (Some records) word None = over schema records (asks_for_plain word)
program_arguments (Some schema) (Some records) word (Some more) = Err Usage
program_arguments (Some schema) None word more = Err Usage

-- the sample's are answered
abbrev pub is_plain : Option Arguments → Bool
is_plain None = false
is_plain (Some arguments) = arguments.plain
