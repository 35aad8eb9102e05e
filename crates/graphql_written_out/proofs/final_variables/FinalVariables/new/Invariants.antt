use Rattle.std.proofs.Common.{◌≡◌, take}
use Rattle.graphql_names.specs.Names.{Bytes}
use Rattle.graphql_rule_errors.specs.Found.{item_named}
use Rattle.graphql_written_out.specs.FinalValues.{definition_named}
use Rattle.graphql_written_out.proofs.final_variables.FinalVariables.new.Given as goal

-- the first definition of each name so far
abbrev pub invariant-definitions : goal.invariant-definitions
invariant-definitions g l = (name : Bytes) → item_named l.first name ≡ definition_named (take l.variable-index l.definitions) name
