-- The fault of a run, and where in the files it stands.
use Rattle.std.specs.Prelude.{ℕ, List}
use Rattle.graphql_file_service.specs.FaultPlaces.{IsPlaced}
use Rattle.graphql_file_service.specs.declared.run_fault.RunFault.{RunFault}
use Rattle.graphql_service_program.specs.declared.failure.Failure.{Failure}
use Rattle.graphql_service_program.specs.declared.failure.Failure.TheVariants.{Run}

-- the program ends by this fault of a run over these files, and tells no other place than its own
abbrev pub TellsPlaced : List ℕ → List ℕ → RunFault → Failure → Type 0
TellsPlaced schema_file records_file e (Run placed) = IsPlaced schema_file records_file e placed
TellsPlaced schema_file records_file e _ = ⊥
