use Rattle.std.proofs.Common.{map, sym, subst, ◌∙◌}
use Rattle.std.specs.List.{flat_map}
use Rattle.graphql_names.specs.Names.{is_one_of}
use Rattle.graphql_tree.specs.Arguments.{Argument}
use Rattle.graphql_visitors.specs.Reports.{Reports}
use Rattle.graphql_rules.specs.ProvidedNonNullArguments.{missing}
use Rattle.graphql_rules.proofs.GivenLemmas.{none_missing}
use Rattle.graphql_visitors.proofs.ReportLemmas.{reports_none, reports_failed}
use Rattle.graphql_rules.proofs.provided_non_null_arguments.report_declared.Goals as goal

pub returns-then-are_optional : goal.returns-then-are_optional
returns-then-are_optional g c =
    subst (λ told. Reports told c.args.context.now c.args.context.now)
    (sym (none_missing c.args.place (is_one_of (map (λ (a : Argument g.row.S.Denot). a.0.item) c.args.arguments.now)) c.args.declared.now (sym c.are_optional.ensures ∙ c.if-are_optional.true)))
    (reports_none c.args.context.now)

pub returns-in-Ok : goal.returns-in-Ok
returns-in-Ok g c =
    subst (λ is_given. Reports (flat_map (missing c.args.place is_given) c.args.declared.now) c.args.context.now c.report_missing.new.context)
    (λ i name. c.in-Ok.ensures name i) c.report_missing.ensures

pub returns-in-Err : goal.returns-in-Err
returns-in-Err g c = reports_failed _ _ c.args.context.now c.args.context.now c.fail.new.self (reports_none c.args.context.now) c.fail.ensures
