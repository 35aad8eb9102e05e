use Rattle.std.proofs.Common.{◌≡◌, ◌||◌, true, take}
use Rattle.std.specs.List.{list_all}
use Rattle.graphql_names.specs.NameSets.{has_name}
use Rattle.graphql_literal_checks.specs.InputTypes.{is_optional}
use Rattle.graphql_literal_checks.proofs.input_fields.first_unsettled.Given as goal

abbrev pub invariant-loop-field : goal.invariant-loop-field
invariant-loop-field g l = list_all (λ a. is_optional a || has_name l.given a.name) (take l.field-index l.declared) ≡ true
