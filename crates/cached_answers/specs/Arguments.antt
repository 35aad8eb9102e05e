-- What the words behind the program's name are.
use Rattle.std.specs.Prelude.{Option, Some, None, Result, Ok, Err}
use Rattle.graphql_file_service.specs.Programs.{Word}
use Rattle.cached_answers.specs.declared.arguments.Arguments.{Arguments}
use Rattle.cached_answers.specs.declared.failure.Failure.{Failure}
use Rattle.cached_answers.specs.declared.failure.Failure.TheVariants.{Usage}

-- two files and a number of bytes, and no more
abbrev pub program_arguments : Option Word → Option Word → Option Word → Option Word
    → Result Arguments Failure
program_arguments (Some schema) (Some records) (Some bytes) None =
    Ok (record { schema = schema; records = records; bytes = bytes })
program_arguments _ _ _ _ = Err Usage
