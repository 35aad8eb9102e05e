use Rattle.graphql_grammar.proofs.Parts.{exits_with}
use Rattle.graphql_language.proofs.SelectionParts.{head_names_refused, head_arguments_refused, head_directives_refused, head_read}
use Rattle.graphql_language.proofs.parse.selection.field_head.Goals as goal

pub returns-in_err-alias-clause-reads : goal.returns-in_err-alias-clause-reads
returns-in_err-alias-clause-reads g c =
    exits_with c.from_residual.result c.field_names.new.cursor c.from_residual.ensures.1 c.in_err-alias.ensures.reads
    (head_names_refused g.S.ParseScalarValue.reads g.S.ScalarValue.of_bool c.args.cursor.now)

pub returns-in_err-arguments-clause-reads : goal.returns-in_err-arguments-clause-reads
returns-in_err-arguments-clause-reads g c =
    exits_with c.from_residual-in_err-arguments.result c.arguments.new.cursor c.from_residual-in_err-arguments.ensures.1 c.in_err-arguments.ensures.reads
    (head_arguments_refused g.S.ParseScalarValue.reads g.S.ScalarValue.of_bool c.args.cursor.now c.in_ok-alias.ensures.reads)

pub returns-in_err-directives-clause-reads : goal.returns-in_err-directives-clause-reads
returns-in_err-directives-clause-reads g c =
    exits_with c.from_residual-in_err-directives.result c.directives.new.cursor c.from_residual-in_err-directives.ensures.1 c.in_err-directives.ensures.reads
    (head_directives_refused g.S.ParseScalarValue.reads g.S.ScalarValue.of_bool c.args.cursor.now c.in_ok-alias.ensures.reads c.in_ok-arguments.ensures.reads)

pub returns-clause-reads : goal.returns-clause-reads
returns-clause-reads g c =
    head_read g.S.ParseScalarValue.reads g.S.ScalarValue.of_bool c.args.cursor.now c.in_ok-alias.ensures.reads c.in_ok-arguments.ensures.reads c.in_ok-directives.ensures.reads c.start-start.ensures
