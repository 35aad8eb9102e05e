use Rattle.graphql_grammar.proofs.Parts.{exits_with}
use Rattle.graphql_language.proofs.SelectionParts.{spread_name_refused, spread_directives_refused, spread_read}
use Rattle.graphql_language.proofs.parse.selection.fragment_spread.Goals as goal

pub returns-in_err-name-clause-reads : goal.returns-in_err-name-clause-reads
returns-in_err-name-clause-reads g c =
    exits_with c.from_residual.result c.fragment_name.new.cursor c.from_residual.ensures.1 c.in_err-name.ensures.reads
    (spread_name_refused g.S.ParseScalarValue.reads g.S.ScalarValue.of_bool c.args.cursor.now)

pub returns-in_err-directives-clause-reads : goal.returns-in_err-directives-clause-reads
returns-in_err-directives-clause-reads g c =
    exits_with c.from_residual-in_err-directives.result c.directives.new.cursor c.from_residual-in_err-directives.ensures.1 c.in_err-directives.ensures.reads
    (spread_directives_refused g.S.ParseScalarValue.reads g.S.ScalarValue.of_bool c.args.cursor.now c.in_ok-name.ensures.reads)

pub returns-clause-reads : goal.returns-clause-reads
returns-clause-reads g c =
    spread_read g.S.ParseScalarValue.reads g.S.ScalarValue.of_bool c.args.cursor.now c.in_ok-name.ensures.reads c.in_ok-directives.ensures.reads
