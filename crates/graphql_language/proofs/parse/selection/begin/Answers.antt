use Rattle.std.proofs.Common.{true, false}
use Rattle.graphql_grammar.specs.declared.kind.Kind.TheVariants as k
use Rattle.graphql_grammar.proofs.KindTests.{asked_kind}
use Rattle.graphql_language.proofs.SelectionParts.{reads_same, begun_at_points, begun_at_name}
use Rattle.graphql_language.proofs.parse.selection.begin.Goals as goal

pub returns-then-eq-clause-reads : goal.returns-then-eq-clause-reads
returns-then-eq-clause-reads g c =
    let i = c.args.cursor.now in
    reads_same c.begin_spread.result c.begin_spread.new.cursor
    (begun_at_points g.S.ParseScalarValue.reads g.S.ScalarValue.of_bool i (asked_kind k.Ellipsis i c.kind.result true c.kind.ensures c.if-eq.ensures)) c.begin_spread.ensures.reads

pub returns-else-eq-clause-reads : goal.returns-else-eq-clause-reads
returns-else-eq-clause-reads g c =
    let i = c.args.cursor.now in
    reads_same c.begin_field.result c.begin_field.new.cursor
    (begun_at_name g.S.ParseScalarValue.reads g.S.ScalarValue.of_bool i (asked_kind k.Ellipsis i c.kind.result false c.kind.ensures c.if-eq.ensures)) c.begin_field.ensures.reads
