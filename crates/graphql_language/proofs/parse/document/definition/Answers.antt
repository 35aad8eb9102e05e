use Rattle.std.proofs.Common.{true, false}
use Rattle.graphql_grammar.specs.declared.kind.Kind.TheVariants as k
use Rattle.graphql_grammar.proofs.Parts.{exits_with}
use Rattle.graphql_grammar.proofs.KindTests.{asked_kind}
use Rattle.graphql_language.proofs.DocumentParts.{definition_fragment_refused, definition_fragment, definition_operation_refused, definition_operation}
use Rattle.graphql_language.proofs.parse.document.definition.Goals as goal

pub returns-in_err-fragment-clause-reads : goal.returns-in_err-fragment-clause-reads
returns-in_err-fragment-clause-reads g c =
    let seen = asked_kind k.Fragment c.args.cursor.now c.kind.result true c.kind.ensures c.if-eq.ensures in
    exits_with c.from_residual.result c.fragment.new.cursor c.from_residual.ensures.1 c.in_err-fragment.ensures.reads (definition_fragment_refused g.S.ParseScalarValue.reads g.S.ScalarValue.of_bool c.args.cursor.now seen)

pub returns-in_ok-fragment-clause-reads : goal.returns-in_ok-fragment-clause-reads
returns-in_ok-fragment-clause-reads g c =
    let seen = asked_kind k.Fragment c.args.cursor.now c.kind.result true c.kind.ensures c.if-eq.ensures in
    definition_fragment g.S.ParseScalarValue.reads g.S.ScalarValue.of_bool c.args.cursor.now seen c.in_ok-fragment.ensures.reads

pub returns-in_err-operation-clause-reads : goal.returns-in_err-operation-clause-reads
returns-in_err-operation-clause-reads g c =
    let seen = asked_kind k.Fragment c.args.cursor.now c.kind.result false c.kind.ensures c.if-eq.ensures in
    exits_with c.from_residual-in_err-operation.result c.operation.new.cursor c.from_residual-in_err-operation.ensures.1 c.in_err-operation.ensures.reads (definition_operation_refused g.S.ParseScalarValue.reads g.S.ScalarValue.of_bool c.args.cursor.now seen)

pub returns-in_ok-operation-clause-reads : goal.returns-in_ok-operation-clause-reads
returns-in_ok-operation-clause-reads g c =
    let seen = asked_kind k.Fragment c.args.cursor.now c.kind.result false c.kind.ensures c.if-eq.ensures in
    definition_operation g.S.ParseScalarValue.reads g.S.ScalarValue.of_bool c.args.cursor.now seen c.in_ok-operation.ensures.reads
