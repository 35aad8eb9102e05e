use Rattle.graphql_grammar.proofs.Parts.{exits_with}
use Rattle.graphql_language.proofs.DocumentParts.{fragment_word_refused, fragment_name_refused, fragment_condition_refused, fragment_body_refused, fragment_read, fragment_refused, fragment_placed}
use Rattle.graphql_language.proofs.parse.document.fragment.Goals as goal

pub returns-in_err-expect-clause-reads : goal.returns-in_err-expect-clause-reads
returns-in_err-expect-clause-reads g c =
    exits_with c.from_residual.result c.expect.new.self c.from_residual.ensures.1 c.in_err-expect.ensures.reads
    (λ refused. fragment_refused g.S.ParseScalarValue.reads g.S.ScalarValue.of_bool c.args.cursor.now (fragment_word_refused g.S.ParseScalarValue.reads g.S.ScalarValue.of_bool c.args.cursor.now refused))

pub returns-in_err-name-clause-reads : goal.returns-in_err-name-clause-reads
returns-in_err-name-clause-reads g c =
    exits_with c.from_residual-in_err-name.result c.fragment_name.new.cursor c.from_residual-in_err-name.ensures.1 c.in_err-name.ensures.reads
    (λ refused. fragment_refused g.S.ParseScalarValue.reads g.S.ScalarValue.of_bool c.args.cursor.now (fragment_name_refused g.S.ParseScalarValue.reads g.S.ScalarValue.of_bool c.args.cursor.now c.in_ok-expect.ensures.reads refused))

pub returns-in_err-type_condition-clause-reads : goal.returns-in_err-type_condition-clause-reads
returns-in_err-type_condition-clause-reads g c =
    exits_with c.from_residual-in_err-type_condition.result c.type_condition.new.cursor c.from_residual-in_err-type_condition.ensures.1 c.in_err-type_condition.ensures.reads
    (λ refused. fragment_refused g.S.ParseScalarValue.reads g.S.ScalarValue.of_bool c.args.cursor.now (fragment_condition_refused g.S.ParseScalarValue.reads g.S.ScalarValue.of_bool c.args.cursor.now c.in_ok-expect.ensures.reads c.in_ok-name.ensures.reads refused))

pub returns-in_err-directives-clause-reads : goal.returns-in_err-directives-clause-reads
returns-in_err-directives-clause-reads g c =
    exits_with c.from_residual-in_err-directives.result c.body.new.cursor c.from_residual-in_err-directives.ensures.1 c.in_err-directives.ensures.reads
    (λ refused. fragment_refused g.S.ParseScalarValue.reads g.S.ScalarValue.of_bool c.args.cursor.now (fragment_body_refused g.S.ParseScalarValue.reads g.S.ScalarValue.of_bool c.args.cursor.now c.in_ok-expect.ensures.reads c.in_ok-name.ensures.reads c.in_ok-type_condition.ensures.reads refused))

pub returns-clause-reads : goal.returns-clause-reads
returns-clause-reads g c =
    fragment_placed g.S.ParseScalarValue.reads g.S.ScalarValue.of_bool c.args.cursor.now (fragment_read g.S.ParseScalarValue.reads g.S.ScalarValue.of_bool c.args.cursor.now c.in_ok-expect.ensures.reads c.in_ok-name.ensures.reads c.in_ok-type_condition.ensures.reads c.in_ok-directives.ensures.reads) c.start-start.ensures c.closed.ensures
