use Rattle.std.proofs.Common.{◌≡◌, ◌∙◌, Bor, [], false, ap, sym, if◌then◌else◌}
use Rattle.std.specs.Option.{is_some, option_map, option_to_list}
use Rattle.graphql_occurrences.specs.Lookups.{known}
use Rattle.graphql_occurrences.specs.Occurrences.{variable_part}
use Rattle.graphql_schema.proofs.MeantScalars.{scalars_of}
use Rattle.graphql_schema.specs.Declarations.{declarations_of}
use Rattle.graphql_schema.specs.declared.schema.SchemaType.{SchemaType}
use Rattle.graphql_rules.specs.DefaultValuesOfCorrectType.{asked_default, defaults_asked}
use Rattle.graphql_rules.proofs.TellLemmas.{reports_no_literal}
use Rattle.graphql_rules.proofs.default_values_of_correct_type.report_variable.Goals as goal

pub returns-then-not-is_known : goal.returns-then-not-is_known
returns-then-not-is_known g c =
    let scalars = scalars_of g.S.ParseScalarValue g.S.ScalarValue g.S.PartialEq g.S.Check.Check in
    let context = c.args.context.now in
    let declared = declarations_of context.schema.now in
    let variable = variable_part c.args.variable.now in
    let unknown : is_some (known declared variable.type_of.item.name) ≡ false =
    ap (λ name. is_some (known declared name)) (sym c.as_str.ensures)
    ∙ ap (λ (schema : Bor (SchemaType g.row.S.Denot g.row.S-Check.Denot)). is_some (known (declarations_of schema.now) c.as_str.result.now)) (sym c.schema.ensures)
    ∙ sym c.is_known.ensures ∙ c.if-not-is_known.true in
    reports_no_literal scalars context.schema.now.types (defaults_asked declared variable) context
    (ap (λ b. if b then option_to_list (option_map (asked_default variable) variable.default) else []) unknown)
