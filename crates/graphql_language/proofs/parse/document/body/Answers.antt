use Rattle.graphql_grammar.proofs.Parts.{exits_with}
use Rattle.graphql_language.proofs.DocumentParts.{body_directives_refused, body_set_refused, body_read}
use Rattle.graphql_language.proofs.parse.document.body.Goals as goal

pub returns-in_err-directives-clause-reads : goal.returns-in_err-directives-clause-reads
returns-in_err-directives-clause-reads g c =
    exits_with c.from_residual.result c.directives.new.cursor c.from_residual.ensures.1 c.in_err-directives.ensures.reads (body_directives_refused g.S.ParseScalarValue.reads g.S.ScalarValue.of_bool c.args.cursor.now)

pub returns-in_err-selection_set-clause-reads : goal.returns-in_err-selection_set-clause-reads
returns-in_err-selection_set-clause-reads g c =
    exits_with c.from_residual-in_err-selection_set.result c.selection_set.new.cursor c.from_residual-in_err-selection_set.ensures.1 c.in_err-selection_set.ensures.reads
    (body_set_refused g.S.ParseScalarValue.reads g.S.ScalarValue.of_bool c.args.cursor.now c.in_ok-directives.ensures.reads)

pub returns-clause-reads : goal.returns-clause-reads
returns-clause-reads g c = body_read g.S.ParseScalarValue.reads g.S.ScalarValue.of_bool c.args.cursor.now c.in_ok-directives.ensures.reads c.in_ok-selection_set.ensures.reads
