use Rattle.std.proofs.Common.{true, false, ap, ◌∙◌, sym, Ok}
use Rattle.graphql_tree.specs.declared.document.Operation.{Operation}
use Rattle.graphql_grammar.specs.declared.kind.Kind.TheVariants as k
use Rattle.graphql_grammar.proofs.Parts.{exits_with}
use Rattle.graphql_grammar.proofs.KindTests.{asked_kind}
use Rattle.graphql_language.proofs.DocumentParts.{short_refused, short_read, long_form, operation_refused, operation_placed}
use Rattle.graphql_language.proofs.parse.document.operation.Goals as goal

pub returns-in_err-set-clause-reads : goal.returns-in_err-set-clause-reads
returns-in_err-set-clause-reads g c =
    let i = c.args.cursor.now in
    let seen = asked_kind k.CurlyOpen i c.kind.result true c.kind.ensures c.if-eq.ensures in
    exits_with c.from_residual.result c.selection_set.new.cursor c.from_residual.ensures.1 c.in_err-set.ensures.reads (λ refused. operation_refused g.S.ParseScalarValue.reads g.S.ScalarValue.of_bool i (short_refused g.S.ParseScalarValue.reads g.S.ScalarValue.of_bool i seen refused))

pub returns-in_ok-set-clause-reads : goal.returns-in_ok-set-clause-reads
returns-in_ok-set-clause-reads g c =
    let i = c.args.cursor.now in
    let j = c.selection_set.new.cursor in
    let seen = asked_kind k.CurlyOpen i c.kind.result true c.kind.ensures c.if-eq.ensures in
    operation_placed g.S.ParseScalarValue.reads g.S.ScalarValue.of_bool i {j = j} (short_read g.S.ParseScalarValue.reads g.S.ScalarValue.of_bool i seen c.in_ok-set.ensures.reads ∙ ap (λ (x : Operation g.row.S.Denot). Ok (x, j)) (sym c.query.ensures)) c.start-start.ensures c.closed.ensures

pub returns-in_err-full-clause-reads : goal.returns-in_err-full-clause-reads
returns-in_err-full-clause-reads g c =
    let i = c.args.cursor.now in
    let seen = asked_kind k.CurlyOpen i c.kind.result false c.kind.ensures c.if-eq.ensures in
    exits_with c.from_residual-in_err-full.result c.full_operation.new.cursor c.from_residual-in_err-full.ensures.1 c.in_err-full.ensures.reads (λ refused. operation_refused g.S.ParseScalarValue.reads g.S.ScalarValue.of_bool i (long_form g.S.ParseScalarValue.reads g.S.ScalarValue.of_bool i seen ∙ refused))

pub returns-in_ok-full-clause-reads : goal.returns-in_ok-full-clause-reads
returns-in_ok-full-clause-reads g c =
    let i = c.args.cursor.now in
    let seen = asked_kind k.CurlyOpen i c.kind.result false c.kind.ensures c.if-eq.ensures in
    operation_placed g.S.ParseScalarValue.reads g.S.ScalarValue.of_bool i (long_form g.S.ParseScalarValue.reads g.S.ScalarValue.of_bool i seen ∙ c.in_ok-full.ensures.reads) c.start-start.ensures c.closed-else-eq.ensures
