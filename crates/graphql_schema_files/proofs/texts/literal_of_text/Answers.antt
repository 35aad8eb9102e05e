use Rattle.std.proofs.Common.{sym, true≢false, ◌∙◌}
use Rattle.graphql_schema_files.specs.SpelledTexts.{HasLiteral, IsLiteral}
use Rattle.graphql_schema_files.proofs.WholeTexts.{no_value, nothing_found, value_found, value_goes_on, value_missing}
use Rattle.graphql_schema_files.proofs.texts.literal_of_text.Goals as goal

-- the text has a lexical fault
pub returns-in-Err : goal.returns-in-Err
returns-in-Err c = nothing_found IsLiteral HasLiteral c.args.text.now c.in-Err.fault c.nothing.result c.nothing.ensures (no_value c.args.text.now c.in-Err.fault c.in-Err.ensures.fault)

-- nothing stands in front
pub returns-in-Err-parse_value_literal : goal.returns-in-Err-parse_value_literal
returns-in-Err-parse_value_literal c =
    nothing_found IsLiteral HasLiteral c.args.text.now c.in-Err-parse_value_literal.fault c.nothing-in-Err-parse_value_literal.result c.nothing-in-Err-parse_value_literal.ensures
    (value_missing c.args.text.now c.in-Ok.parser c.parse_value_literal.new.parser c.in-Ok.ensures.start c.in-Ok.ensures.fresh c.in-Err-parse_value_literal.fault c.in-Err-parse_value_literal.ensures.calls)

pub returns-then-is_at_end : goal.returns-then-is_at_end
returns-then-is_at_end c =
    value_found c.args.text.now c.in-Ok.parser c.parse_value_literal.new.parser c.in-Ok.ensures.start c.in-Ok.ensures.fresh c.in-Ok-parse_value_literal.found c.in-Ok-parse_value_literal.ensures.calls (c.is_at_end.ensures.0 c.if-is_at_end.true)

-- something stands behind it
pub returns : goal.returns
returns c =
    value_goes_on c.args.text.now c.in-Ok.parser c.parse_value_literal.new.parser c.in-Ok.ensures.start c.in-Ok.ensures.fresh c.in-Ok-parse_value_literal.found c.in-Ok-parse_value_literal.ensures.calls
    (λ at_end. true≢false (sym (c.is_at_end.ensures.1 at_end) ∙ c.if-is_at_end.false))
