use Rattle.std.proofs.Common.{◌∙◌, Bool, map, ap, sym}
use Rattle.graphql_schema.specs.Types.{arguments_of}
use Rattle.graphql_names.specs.Names.{Bytes}
use Rattle.graphql_schema.specs.Lookups.{type_named, argument_type_name}
use Rattle.graphql_schema.specs.Demands.{is_unmet, misses}
use Rattle.graphql_schema.proofs.FaultsFound.{bad-names, good-names}
use Rattle.graphql_schema.proofs.faults.references.unmet_argument.Goals as goal

pub returns-in-Some : goal.returns-in-Some
returns-in-Some g c =
    let bad : Bytes → Bool = λ name. is_unmet c.args.wanted (type_named c.args.types.now name) in
    bad-names bad (λ field. map argument_type_name (arguments_of field)) c.args.fields.now c.fields.field-index c.field-item.result c.fields-test.true c.field-item.is
    c.in-Some.name.now (ap (λ arguments. misses c.args.wanted c.args.types.now (map argument_type_name arguments) c.in-Some.name.now) (sym c.arguments.ensures) ∙ c.in-Some.ensures)

pub fields-preserved : goal.fields-preserved
fields-preserved g c =
    let bad : Bytes → Bool = λ name. is_unmet c.args.wanted (type_named c.args.types.now name) in
    good-names bad (λ field. map argument_type_name (arguments_of field)) c.args.fields.now c.fields.field-index c.field-item.result c.fields-test.true c.field-item.is c.fields.invariant
    (λ name. ap (λ arguments. misses c.args.wanted c.args.types.now (map argument_type_name arguments) name) (sym c.arguments.ensures) ∙ c.in_default.ensures name)
