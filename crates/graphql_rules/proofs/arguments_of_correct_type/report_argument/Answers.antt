use Rattle.graphql_schema.proofs.MeantScalars.{scalars_of}
use Rattle.std.proofs.Common.{◌∙◌, ap, sym}
use Rattle.std.specs.Option.{option_copied, option_map, option_to_list}
use Rattle.graphql_occurrences.specs.Lent.{arguments_lent}
use Rattle.graphql_occurrences.specs.Lookups.{argument_named}
use Rattle.graphql_rules.specs.ArgumentsOfCorrectType.{asked_argument, literal_of}
use Rattle.graphql_rules.proofs.TellLemmas.{reports_no_literal}
use Rattle.graphql_rules.proofs.arguments_of_correct_type.report_argument.Goals as goal

pub returns-in_default : goal.returns-in_default
returns-in_default g c =
    let scalars = scalars_of g.S.ParseScalarValue g.S.ScalarValue g.S.PartialEq g.S.Check.Check in
    let declared = arguments_lent c.args.declared in
    let argument = c.args.argument.now in
    reports_no_literal scalars c.args.context.now.schema.now.types (literal_of declared argument) c.args.context.now
    (ap (λ found. option_to_list (option_map (asked_argument argument) found)) (ap (argument_named declared) (sym c.as_str-name.ensures) ∙ sym c.get.ensures ∙ ap option_copied c.in_default.is))
