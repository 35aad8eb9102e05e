use Rattle.std.proofs.Common.{sym, subst, true≢false, ◌∙◌}
use Rattle.graphql_schema_files.specs.SpelledTexts.{HasType, IsType}
use Rattle.graphql_schema_files.proofs.WholeTexts.{no_type, nothing_found, type_found, type_goes_on, type_missing}
use Rattle.graphql_schema_files.proofs.texts.type_of_text.Goals as goal

-- the text has a lexical fault
pub returns-in-Err : goal.returns-in-Err
returns-in-Err c = nothing_found IsType HasType c.args.text.now c.in-Err.fault c.nothing.result c.nothing.ensures (no_type c.args.text.now c.in-Err.fault c.in-Err.ensures.fault)

-- nothing stands in front
pub returns-in-Err-parse_type : goal.returns-in-Err-parse_type
returns-in-Err-parse_type c =
    nothing_found IsType HasType c.args.text.now c.in-Err-parse_type.fault c.nothing-in-Err-parse_type.result c.nothing-in-Err-parse_type.ensures
    (type_missing c.args.text.now c.in-Ok.parser c.parse_type.new.parser c.in-Ok.ensures.start c.in-Ok.ensures.fresh c.in-Err-parse_type.fault c.in-Err-parse_type.ensures.calls)

pub returns-then-is_at_end : goal.returns-then-is_at_end
returns-then-is_at_end c =
    subst (IsType c.args.text.now) (sym c.in_ok-owned.ensures) (type_found c.args.text.now c.in-Ok.parser c.parse_type.new.parser c.in-Ok.ensures.start c.in-Ok.ensures.fresh c.in-Ok-parse_type.found c.in-Ok-parse_type.ensures.calls (c.is_at_end.ensures.0 c.if-is_at_end.true))

-- something stands behind it
pub returns : goal.returns
returns c =
    type_goes_on c.args.text.now c.in-Ok.parser c.parse_type.new.parser c.in-Ok.ensures.start c.in-Ok.ensures.fresh c.in-Ok-parse_type.found c.in-Ok-parse_type.ensures.calls
    (λ at_end. true≢false (sym (c.is_at_end.ensures.1 at_end) ∙ c.if-is_at_end.false))
