use Rattle.graphql_grammar.proofs.Parts.{exits_with}
use Rattle.graphql_language.proofs.DocumentParts.{full_type_refused, full_name_refused, full_variables_refused, full_body_refused, full_read}
use Rattle.graphql_language.proofs.parse.document.full_operation.Goals as goal

pub returns-in_err-operation_type-clause-reads : goal.returns-in_err-operation_type-clause-reads
returns-in_err-operation_type-clause-reads g c =
    exits_with c.from_residual.result c.operation_type.new.cursor c.from_residual.ensures.1 c.in_err-operation_type.ensures.reads
    (full_type_refused g.S.ParseScalarValue.reads g.S.ScalarValue.of_bool c.args.cursor.now)

pub returns-in_err-name-clause-reads : goal.returns-in_err-name-clause-reads
returns-in_err-name-clause-reads g c =
    exits_with c.from_residual-in_err-name.result c.operation_name.new.cursor c.from_residual-in_err-name.ensures.1 c.in_err-name.ensures.reads
    (full_name_refused g.S.ParseScalarValue.reads g.S.ScalarValue.of_bool c.args.cursor.now c.in_ok-operation_type.ensures.reads)

pub returns-in_err-variable_definitions-clause-reads : goal.returns-in_err-variable_definitions-clause-reads
returns-in_err-variable_definitions-clause-reads g c =
    exits_with c.from_residual-in_err-variable_definitions.result c.variable_definitions.new.cursor c.from_residual-in_err-variable_definitions.ensures.1 c.in_err-variable_definitions.ensures.reads
    (full_variables_refused g.S.ParseScalarValue.reads g.S.ScalarValue.of_bool c.args.cursor.now c.in_ok-operation_type.ensures.reads c.in_ok-name.ensures.reads)

pub returns-in_err-directives-clause-reads : goal.returns-in_err-directives-clause-reads
returns-in_err-directives-clause-reads g c =
    exits_with c.from_residual-in_err-directives.result c.body.new.cursor c.from_residual-in_err-directives.ensures.1 c.in_err-directives.ensures.reads
    (full_body_refused g.S.ParseScalarValue.reads g.S.ScalarValue.of_bool c.args.cursor.now c.in_ok-operation_type.ensures.reads c.in_ok-name.ensures.reads c.in_ok-variable_definitions.ensures.reads)

pub returns-clause-reads : goal.returns-clause-reads
returns-clause-reads g c = full_read g.S.ParseScalarValue.reads g.S.ScalarValue.of_bool c.args.cursor.now c.in_ok-operation_type.ensures.reads c.in_ok-name.ensures.reads c.in_ok-variable_definitions.ensures.reads c.in_ok-directives.ensures.reads
