use Rattle.graphql_grammar.specs.declared.kind.Kind.TheVariants as k
use Rattle.graphql_grammar.specs.Kinds.{only}
use Rattle.graphql_grammar.proofs.Parts.{exits_with, optional_none, optional_read, optional_refused}
use Rattle.graphql_value_syntax.specs.ReadDirectives as spec
use Rattle.graphql_grammar.proofs.KindTests.{this_kind, other_kind}
use Rattle.graphql_schema_rows.proofs.DefinitionParts.{default_read, default_refused, default_absent}
use Rattle.graphql_schema_rows.proofs.definitions.default_of.Goals as goal

pub returns-then-ne-clause-reads : goal.returns-then-ne-clause-reads
returns-then-ne-clause-reads g c =
    let i = c.args.cursor.now in
    optional_none (only k.Equals) (spec.default_value g.S.ParseScalarValue.reads g.S.ScalarValue.of_bool) i (other_kind k.Equals i c.kind.result c.kind.ensures c.if-ne.ensures)

pub returns-in_err-expect-clause-reads : goal.returns-in_err-expect-clause-reads
returns-in_err-expect-clause-reads g c =
    let i = c.args.cursor.now in
    let reads = g.S.ParseScalarValue.reads in
    let of_bool = g.S.ScalarValue.of_bool in
    let seen = this_kind k.Equals i c.kind.result c.kind.ensures c.if-ne.ensures in
    exits_with c.from_residual.result c.expect.new.self c.from_residual.ensures.1 c.in_err-expect.ensures.reads
    (λ refused. optional_refused (only k.Equals) (spec.default_value reads of_bool) seen (default_absent reads of_bool i refused))

pub returns-in_err-default_value-clause-reads : goal.returns-in_err-default_value-clause-reads
returns-in_err-default_value-clause-reads g c =
    let i = c.args.cursor.now in
    let reads = g.S.ParseScalarValue.reads in
    let of_bool = g.S.ScalarValue.of_bool in
    let seen = this_kind k.Equals i c.kind.result c.kind.ensures c.if-ne.ensures in
    exits_with c.from_residual-in_err-default_value.result c.value.new.cursor c.from_residual-in_err-default_value.ensures.1 c.in_err-default_value.ensures.reads
    (λ refused. optional_refused (only k.Equals) (spec.default_value reads of_bool) seen (default_refused reads of_bool i c.expect.new.self c.in_ok-expect.ensures.reads refused))

pub returns-clause-reads : goal.returns-clause-reads
returns-clause-reads g c =
    let i = c.args.cursor.now in
    let reads = g.S.ParseScalarValue.reads in
    let of_bool = g.S.ScalarValue.of_bool in
    let seen = this_kind k.Equals i c.kind.result c.kind.ensures c.if-ne.ensures in
    optional_read (only k.Equals) (spec.default_value reads of_bool) seen (default_read reads of_bool i c.expect.new.self c.in_ok-expect.ensures.reads c.in_ok-default_value.ensures.reads)
