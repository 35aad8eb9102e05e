-- Why the program ended, as its exit status.
use Rattle.std.specs.Prelude.{ℕ}
use Rattle.graphql_file_service.specs.Programs.{status_of_fault}
use Rattle.graphql_service_program.specs.declared.failure.Failure.{Failure}
use Rattle.graphql_service_program.specs.declared.failure.Failure.TheVariants.{Usage, CannotRead}
use Rattle.graphql_service_program.specs.declared.failure.Failure.TheVariants.{Run, Memory}

-- a file that can't be read is told by 1, wrong arguments by 2, want of memory by 4
abbrev pub status_of : Failure → ℕ
status_of Usage = 2
status_of (CannotRead path) = 1
status_of (Run placed) = status_of_fault placed.fault
status_of Memory = 4
