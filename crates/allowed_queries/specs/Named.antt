-- What the words behind the program's name name.
use Rattle.std.specs.Prelude.{Option, Some, None, Result, Ok, Err}
use Rattle.graphql_file_service.specs.Programs.{Word}
use Rattle.allowed_queries.specs.declared.arguments.Arguments.{Arguments}
use Rattle.allowed_queries.specs.declared.failure.Failure.{Failure}
use Rattle.allowed_queries.specs.declared.failure.Failure.TheVariants.{Usage}

-- three files, and no word behind them
abbrev pub program_arguments : Option Word → Option Word → Option Word → Option Word
    → Result Arguments Failure
program_arguments (Some schema) (Some records) (Some allowed) None =
    Ok (record { schema = schema; records = records; allowed = allowed })
program_arguments (Some schema) (Some records) (Some allowed) (Some more) = Err Usage
program_arguments (Some schema) (Some records) None more = Err Usage
program_arguments (Some schema) None allowed more = Err Usage
program_arguments None records allowed more = Err Usage
