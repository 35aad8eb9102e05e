use Rattle.std.proofs.Common.{map, take}
use Rattle.std.specs.List.{flat_map}
use Rattle.graphql_rules_document.specs.Lent.{use_of}
use Rattle.graphql_rules_document.specs.FirstVariables.{variable_at}
use Rattle.graphql_rule_errors.specs.Places.{Reports}
use Rattle.graphql_rules_document.specs.VariablesInAllowedPosition.{disallowed_by}
use Rattle.graphql_rules_document.proofs.variables_in_allowed_position.report_uses.Given as goal

abbrev pub invariant-uses : goal.invariant-uses
invariant-uses g l = Reports (flat_map (λ u. disallowed_by l.schema.types (variable_at l.first u.name) u) (map use_of (take l.used-index l.uses))) l.initial.errors l.errors
