use Rattle.std.proofs.Common.{◌<◌, subst}
use Rattle.graphql_arguments.specs.GivenValues.{arguments_told}
use Rattle.graphql_output_values.specs.Objects.{with_fields}
use Rattle.graphql_records.specs.Settings.{set_all, set_at}
use Rattle.graphql_records.proofs.SettingLemmas.{set_turn, set_fails, adds_err, answered_err}
use Rattle.graphql_records.proofs.setting.values_of.Goals as goal

pub returns-in-Err : goal.returns-in-Err
returns-in-Err c = λ fields.
    let types = c.args.types.now in
    let object = c.args.object.now in
    let given = arguments_told c.args.arguments.now in
    let within = subst (λ n. c.arguments.place < n) c.len-place-end.ensures c.arguments-test.true in
    let whole = set_all types object given fields in
    let so_far = with_fields fields c.arguments.values in
    answered_err whole (set_at types object given c.arguments.place so_far) c.in-Err.fault
    (λ e. set_fails types object whole given c.arguments.place so_far e within (c.arguments.invariant fields))
    (adds_err (set_at types object given c.arguments.place) c.arguments.values c.add_at.new.values c.in-Err.fault c.in-Err.ensures so_far)

pub arguments-preserved : goal.arguments-preserved
arguments-preserved c = λ fields.
    let types = c.args.types.now in
    let object = c.args.object.now in
    let given = arguments_told c.args.arguments.now in
    let within = subst (λ n. c.arguments.place < n) c.len-place-end.ensures c.arguments-test.true in
    set_turn types object (set_all types object given fields) given c.arguments.place (with_fields fields c.arguments.values)
    (with_fields fields c.add_at.new.values) within (c.in-Ok.ensures fields) (c.arguments.invariant fields)
