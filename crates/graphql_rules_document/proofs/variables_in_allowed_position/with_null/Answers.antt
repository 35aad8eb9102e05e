use Rattle.std.proofs.Common.{ap}
use Rattle.graphql_schema.specs.Types.{TypeOf}
use Rattle.graphql_rules_document.proofs.PositionLemmas.{with_list, without_non_null}
use Rattle.graphql_rules_document.proofs.variables_in_allowed_position.with_null.Goals as goal

pub returns-in-Some-NonNull-default : goal.returns-in-Some-NonNull-default
returns-in-Some-NonNull-default c =
    let cases = c.in-Some-NonNull-default.ensures.cases in
    let named : _ → TypeOf = λ ms. record { name = c.args.literal.name.now; modifiers = ms } in
    ap named (without_non_null c.args.literal.modifiers.now c.in-Some-NonNull-default.within.now c.in-Some-NonNull-default.field-0-0.now cases.0 cases.1 c.in-Some-NonNull-default.field-0-0-is)

pub returns-in-Some-List-default : goal.returns-in-Some-List-default
returns-in-Some-List-default c =
    let cases = c.in-Some-List-default.ensures.cases in
    let named : _ → TypeOf = λ ms. record { name = c.args.literal.name.now; modifiers = ms } in
    ap named (with_list c.args.literal.modifiers.now c.in-Some-List-default.field-0-1.now c.in-Some-List-default.field-0-0.now cases.0 cases.1 _ c.in-Some-List-default.field-0-0-is)
