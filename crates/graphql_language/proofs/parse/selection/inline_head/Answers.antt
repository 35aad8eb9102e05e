use Rattle.graphql_grammar.proofs.Parts.{exits_with}
use Rattle.graphql_language.proofs.SelectionParts.{inline_condition_refused, inline_directives_refused, inline_read}
use Rattle.graphql_language.proofs.parse.selection.inline_head.Goals as goal

pub returns-in_err-type_condition-clause-reads : goal.returns-in_err-type_condition-clause-reads
returns-in_err-type_condition-clause-reads g c =
    exits_with c.from_residual.result c.optional_type_condition.new.cursor c.from_residual.ensures.1 c.in_err-type_condition.ensures.reads
    (inline_condition_refused g.S.ParseScalarValue.reads g.S.ScalarValue.of_bool c.args.start c.args.cursor.now)

pub returns-in_err-directives-clause-reads : goal.returns-in_err-directives-clause-reads
returns-in_err-directives-clause-reads g c =
    exits_with c.from_residual-in_err-directives.result c.directives.new.cursor c.from_residual-in_err-directives.ensures.1 c.in_err-directives.ensures.reads
    (inline_directives_refused g.S.ParseScalarValue.reads g.S.ScalarValue.of_bool c.args.start c.args.cursor.now c.in_ok-type_condition.ensures.reads)

pub returns-clause-reads : goal.returns-clause-reads
returns-clause-reads g c =
    inline_read g.S.ParseScalarValue.reads g.S.ScalarValue.of_bool c.args.start c.args.cursor.now c.in_ok-type_condition.ensures.reads c.in_ok-directives.ensures.reads
