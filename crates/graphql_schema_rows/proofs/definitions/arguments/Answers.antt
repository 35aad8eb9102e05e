use Rattle.graphql_grammar.specs.declared.kind.Kind.TheVariants as k
use Rattle.graphql_grammar.specs.Kinds.{only}
use Rattle.graphql_grammar.proofs.Parts.{exits_with, optional_none, optional_read, optional_refused}
use Rattle.graphql_grammar.proofs.KindTests.{this_kind, other_kind}
use Rattle.graphql_schema_rows.specs.ReadDefinitions as spec
use Rattle.graphql_schema_rows.proofs.definitions.arguments.Goals as goal

pub returns-then-ne-clause-reads : goal.returns-then-ne-clause-reads
returns-then-ne-clause-reads g c =
    let i = c.args.cursor.now in
    optional_none (only k.ParenOpen) (spec.arguments g.S.ParseScalarValue.reads g.S.ScalarValue.of_bool) i (other_kind k.ParenOpen i c.kind.result c.kind.ensures c.if-ne.ensures)

pub returns-in_err-items-clause-reads : goal.returns-in_err-items-clause-reads
returns-in_err-items-clause-reads g c =
    let i = c.args.cursor.now in
    let seen = this_kind k.ParenOpen i c.kind.result c.kind.ensures c.if-ne.ensures in
    exits_with c.from_residual.result c.argument_list.new.cursor c.from_residual.ensures.1 c.in_err-items.ensures.reads
    (λ refused. optional_refused (only k.ParenOpen) (spec.arguments g.S.ParseScalarValue.reads g.S.ScalarValue.of_bool) seen refused)

pub returns-clause-reads : goal.returns-clause-reads
returns-clause-reads g c =
    let i = c.args.cursor.now in
    let seen = this_kind k.ParenOpen i c.kind.result c.kind.ensures c.if-ne.ensures in
    optional_read (only k.ParenOpen) (spec.arguments g.S.ParseScalarValue.reads g.S.ScalarValue.of_bool) seen c.in_ok-items.ensures.reads
