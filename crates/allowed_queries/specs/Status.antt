-- Why the program ended, as its exit status.
use Rattle.std.specs.Prelude.{ℕ}
use Rattle.graphql_stores.specs.declared.allowed_fault.AllowedFault.{AllowedFault}
use Rattle.graphql_stores.specs.declared.allowed_fault.AllowedFault.TheVariants as allowed
use Rattle.graphql_file_service.specs.Programs.{status_of_fault}
use Rattle.allowed_queries.specs.declared.failure.Failure.{Failure}
use Rattle.allowed_queries.specs.declared.failure.Failure.TheVariants.{Usage, CannotRead, Allowed}
use Rattle.allowed_queries.specs.declared.failure.Failure.TheVariants.{Run, Memory}

-- a file that is bad is told by 1, and want of memory by 4
abbrev pub status_of_allowed : AllowedFault → ℕ
status_of_allowed (allowed.Line number) = 1
status_of_allowed allowed.Memory = 4

-- a file that can't be read is told by 1, wrong arguments by 2, want of memory by 4
abbrev pub status_of : Failure → ℕ
status_of Usage = 2
status_of (CannotRead path) = 1
status_of (Allowed fault) = status_of_allowed fault
status_of (Run placed) = status_of_fault placed.fault
status_of Memory = 4
