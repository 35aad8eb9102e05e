use Rattle.std.proofs.Common.{◌∙◌, ap}
use Rattle.std.specs.List.{list_any}
use Rattle.graphql_schema.specs.Types.{values_of, fields_of, input_fields_of}
use Rattle.graphql_names.specs.Names.{stands_twice}
use Rattle.graphql_schema.specs.Faults.{scopes_of}
use Rattle.graphql_names.proofs.NameLemmas.{ok_finds_as}
use Rattle.graphql_names.proofs.Repeats.{none_twice}
use Rattle.graphql_schema.proofs.FaultsTwice.{argument_twice, arguments_alone}
use Rattle.graphql_schema.proofs.faults.duplicates.repeated_within.Goals as goal

pub returns : goal.returns
returns g c =
    let m = c.args.meta.now in
    let fields = none_twice (λ field. field.name) c.fields.result.now (fields_of m) c.fields.ensures c.in_ok-name.field-0 c.in_ok-name.ensures c.in_default.is in
    let values = none_twice (λ value. value.name) c.enum_values.result.now (values_of m) c.enum_values.ensures c.in_ok-name-2.field-0 c.in_ok-name-2.ensures c.in_default-2.is in
    let inputs = none_twice (λ field. field.name) c.input_fields.result.now (input_fields_of m) c.input_fields.ensures c.in_ok-name-3.field-0 c.in_ok-name-3.ensures c.in_default-3.is in
    ok_finds_as (argument_twice c.fields-2.result.now) (λ name. list_any (λ names. stands_twice names name) (scopes_of m)) c.repeated_argument.result
    (λ name. ap (λ fields. argument_twice fields name) c.fields-2.ensures ∙ arguments_alone m name (fields name) (values name) (inputs name))
    c.repeated_argument.ensures
