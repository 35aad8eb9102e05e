use Rattle.std.proofs.Common.{◌||◌, map, ap}
use Rattle.graphql_schema.specs.declared.meta.argument.Argument.{Argument}
use Rattle.graphql_names.specs.Names.{is_one_of}
use Rattle.graphql_values.specs.declared.input_value.InputValue.{InputValue}
use Rattle.graphql_values.specs.InputValues.{Pair}
use Rattle.graphql_names.specs.NameSets.{has_name}
use Rattle.graphql_literal_checks.specs.InputTypes.{is_optional}
use Rattle.graphql_literal_checks.proofs.InputFieldsLemmas.{unsettled_same}
use Rattle.graphql_literal_checks.proofs.input_fields.missing.Goals as goal

pub returns : goal.returns
returns g c =
    unsettled_same
    (λ (a : Argument g.row.S.Denot). is_optional a || has_name c.in_ok-given.given a.name)
    (λ (a : Argument g.row.S.Denot). is_optional a || is_one_of (map (λ (p : Pair (InputValue g.row.S.Denot)). p.0.item) c.args.pairs.now) a.name)
    (λ a. ap (λ b. is_optional a || b) (c.in_ok-given.ensures a.name))
    c.args.declared.now c.first_unsettled.result c.first_unsettled.ensures
