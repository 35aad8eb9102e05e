use Rattle.std.proofs.Common.{◌≡◌, map, take}
use Rattle.graphql_schema.specs.Declarations.{declarations_of}
use Rattle.graphql_set_table.specs.Reading.{sets_at}
use Rattle.graphql_set_table.specs.SetsAt.{definition_set}
use Rattle.graphql_set_table.proofs.table.sets_of_definitions.Given as goal

-- the sets of the definitions so far
abbrev pub invariant-definitions : goal.invariant-definitions
invariant-definitions g l =
    sets_at l.sets ≡ map (definition_set (declarations_of l.schema)) (take l.definition-index l.document)
