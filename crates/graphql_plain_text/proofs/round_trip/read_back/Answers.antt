use Rattle.std.proofs.Common.{◌≡◌, ◌∙◌}
use Rattle.graphql_plain_text.specs.Writable.{value_text}
use Rattle.graphql_plain_text.proofs.ReadBack.{value_memory, value_read, back_same, back_spelled, back_memory}
use Rattle.graphql_plain_text.proofs.round_trip.read_back.Goals as goal

pub returns-in-Err-new-clause-memory : goal.returns-in-Err-new-clause-memory
returns-in-Err-new-clause-memory c =
    let text : c.as_str.result.now ≡ value_text c.args.value.now = c.as_str.ensures.value ∙ c.in-Ok.ensures.ok in
    value_memory c.args.is_const c.args.value.now c.as_str.result.now c.in-Err-new.fault c.requires text c.in-Err-new.ensures.fault

pub returns-clause-same : goal.returns-clause-same
returns-clause-same c =
    let text : c.as_str.result.now ≡ value_text c.args.value.now = c.as_str.ensures.value ∙ c.in-Ok.ensures.ok in
    back_same c.args.is_const c.args.value.now c.parse_value_literal.new.parser c.parse_value_literal.result
    (value_read c.args.is_const c.args.value.now c.as_str.result.now c.in-Ok-new.parser c.parse_value_literal.new.parser c.parse_value_literal.result c.requires text c.in-Ok-new.ensures.start c.in-Ok-new.ensures.fresh c.parse_value_literal.ensures.calls)

pub returns-clause-spelled : goal.returns-clause-spelled
returns-clause-spelled c =
    let text : c.as_str.result.now ≡ value_text c.args.value.now = c.as_str.ensures.value ∙ c.in-Ok.ensures.ok in
    back_spelled c.args.is_const c.args.value.now c.parse_value_literal.new.parser c.parse_value_literal.result
    (value_read c.args.is_const c.args.value.now c.as_str.result.now c.in-Ok-new.parser c.parse_value_literal.new.parser c.parse_value_literal.result c.requires text c.in-Ok-new.ensures.start c.in-Ok-new.ensures.fresh c.parse_value_literal.ensures.calls)

pub returns-clause-memory : goal.returns-clause-memory
returns-clause-memory c =
    let text : c.as_str.result.now ≡ value_text c.args.value.now = c.as_str.ensures.value ∙ c.in-Ok.ensures.ok in
    back_memory c.args.is_const c.args.value.now c.parse_value_literal.new.parser c.parse_value_literal.result
    (value_read c.args.is_const c.args.value.now c.as_str.result.now c.in-Ok-new.parser c.parse_value_literal.new.parser c.parse_value_literal.result c.requires text c.in-Ok-new.ensures.start c.in-Ok-new.ensures.fresh c.parse_value_literal.ensures.calls)
