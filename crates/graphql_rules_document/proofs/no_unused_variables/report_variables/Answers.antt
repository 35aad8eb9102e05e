use Rattle.std.proofs.Common.{◌≡◌, List, [], ◌∷◌, map, take, ap, ◌∙◌, arith}
use Rattle.std.specs.List.{flat_map}
use Rattle.std.proofs.lemmas.List.{take_all}
use Rattle.std.specs.Prelude.{not}
use Rattle.graphql_names.specs.Names.{is_one_of}
use Rattle.graphql_tree.specs.Variables.{Variable}
use Rattle.graphql_occurrences.specs.Occurrences.{variable_part}
use Rattle.graphql_rules_document.specs.NoUnusedVariables.{unused_variable}
use Rattle.graphql_rule_errors.specs.Places.{error_if}
use Rattle.graphql_rule_errors.proofs.ReportLemmas.{reports_as}
use Rattle.graphql_rules_document.proofs.LoopLemmas.{reports_turn}
use Rattle.graphql_rules_document.proofs.no_unused_variables.report_variables.Goals as goal

pub defined-preserved : goal.defined-preserved
defined-preserved g c names known =
    let is = c.variable-item.is in
    let mid = c.defined.errors in
    let new = c.report_variable.new.errors in
    let same = c.contains.ensures ∙ known c.as_str-name.result.now ∙ ap (is_one_of names) (c.as_str-name.ensures ∙ ap (λ (v : Variable g.row.S.Denot). v.0.item) is) in
    reports_turn variable_part (unused_variable names) c.args.defined.now c.defined.variable-index c.variable-item.result c.defined-test.true c.args.errors.now mid new (c.defined.invariant names known)
    (reports_as _ _ mid new (λ j. error_if (not (same j)) ((is j).0.span.start ∷ [])) c.in_ok-report_variable.ensures)

pub returns : goal.returns
returns g c names known =
    let whole : take c.defined.variable-index c.args.defined.now ≡ c.args.defined.now = take_all c.defined.variable-index c.args.defined.now (omega arith) in
    reports_as _ _ c.args.errors.now c.defined.errors (ap (λ (vs : List (Variable g.row.S.Denot)). flat_map (unused_variable names) (map variable_part vs)) whole) (c.defined.invariant names known)
