use Rattle.graphql_schema.proofs.MeantScalars.{scalars_of}
use Rattle.std.proofs.Common.{Some, None}
use Rattle.std.specs.HashMap.{get_by_text}
use Rattle.std.specs.Option.{option_copied}
use Rattle.graphql_written_out.specs.FinalValues.{variable_name}
use Rattle.graphql_variable_checks.proofs.JudgedLemmas.{known_type, looked_up, reason_of_known}
use Rattle.graphql_variable_checks.proofs.validate.refusal.Goals as goal

pub returns-in-Some : goal.returns-in-Some
returns-in-Some g c =
    let scalars = scalars_of g.S.ParseScalarValue g.S.ScalarValue g.S.PartialEq g.S.Check.Check in
    let types = c.args.schema.now.types in
    let given = get_by_text c.args.variables.now in
    let v = c.args.variable.now in
    let known = known_type types v c.as_str.result.now c.concrete_type_by_name.result c.is_none.result c.as_str.ensures c.concrete_type_by_name.ensures c.is_none.ensures c.if-is_none.false in
    let looked = looked_up given c.as_str-name.result.now (variable_name v) c.get.result (Some c.in-Some.value) c.as_str-name.ensures c.get.ensures.value c.in-Some.is in
    reason_of_known scalars types given v (option_copied (Some c.in-Some.value)) known looked c.refusal_of_value.result c.refusal_of_value.ensures

pub returns-in-None : goal.returns-in-None
returns-in-None g c =
    let scalars = scalars_of g.S.ParseScalarValue g.S.ScalarValue g.S.PartialEq g.S.Check.Check in
    let types = c.args.schema.now.types in
    let given = get_by_text c.args.variables.now in
    let v = c.args.variable.now in
    let known = known_type types v c.as_str.result.now c.concrete_type_by_name.result c.is_none.result c.as_str.ensures c.concrete_type_by_name.ensures c.is_none.ensures c.if-is_none.false in
    let looked = looked_up given c.as_str-name.result.now (variable_name v) c.get.result None c.as_str-name.ensures c.get.ensures.value c.in-None.is in
    reason_of_known scalars types given v (option_copied None) known looked c.refusal_of_absence.result c.refusal_of_absence.ensures
