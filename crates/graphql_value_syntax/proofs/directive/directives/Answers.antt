use Rattle.std.proofs.Common.{true, false, refl, arith}
use Rattle.graphql_grammar.specs.declared.kind.Kind.TheVariants as k
use Rattle.graphql_grammar.specs.Kinds.{only}
use Rattle.graphql_grammar.proofs.Parts.{exits_with}
use Rattle.graphql_grammar.proofs.Turns.{all_refused, all_more, all_stopped}
use Rattle.graphql_value_syntax.specs.ReadDirectives as spec
use Rattle.graphql_grammar.proofs.KindTests.{asked_kind}
use Rattle.graphql_value_syntax.proofs.DirectiveParts.{directives_refused, directives_none, directives_some}
use Rattle.graphql_value_syntax.proofs.directive.directives.Goals as goal

pub returns-in_err-directive-clause-reads : goal.returns-in_err-directive-clause-reads
returns-in_err-directive-clause-reads g c =
    let reads = g.S.ParseScalarValue.reads in
    let of_bool = g.S.ScalarValue.of_bool in
    let item = spec.directive reads of_bool c.args.is_const in
    let seen = asked_kind k.At c.directives.cursor c.kind.result true c.kind.ensures c.directives-test.ensures in
    exits_with c.from_residual.result c.directive.new.cursor c.from_residual.ensures.1 c.in_err-directive.ensures.reads
    (λ refused. directives_refused reads of_bool c.args.is_const c.args.cursor.now (all_refused (only k.At) item refl c.directives.invariant.reads seen refused))

pub directives-preserved : goal.directives-preserved
directives-preserved g c =
    let item = spec.directive g.S.ParseScalarValue.reads g.S.ScalarValue.of_bool c.args.is_const in
    let seen = asked_kind k.At c.directives.cursor c.kind.result true c.kind.ensures c.directives-test.ensures in
    record {
      reads = all_more (only k.At) item refl c.directives.invariant.reads seen c.in_ok-directive.ensures.reads c.in_ok-directive.ensures.fewer c.in_ok-keep.ensures.ok;
      no_more = omega arith;
    }

pub returns-then-is_empty-clause-reads : goal.returns-then-is_empty-clause-reads
returns-then-is_empty-clause-reads g c =
    let reads = g.S.ParseScalarValue.reads in
    let of_bool = g.S.ScalarValue.of_bool in
    let item = spec.directive reads of_bool c.args.is_const in
    let seen = asked_kind k.At c.directives.cursor c.kind.result false c.kind.ensures c.directives-test.ensures in
    directives_none reads of_bool c.args.is_const c.args.cursor.now c.directives.cursor c.directives.found (c.if-is_empty.ensures.0 refl) (all_stopped (only k.At) item c.directives.invariant.reads seen)

pub returns-clause-reads : goal.returns-clause-reads
returns-clause-reads g c =
    let reads = g.S.ParseScalarValue.reads in
    let of_bool = g.S.ScalarValue.of_bool in
    let item = spec.directive reads of_bool c.args.is_const in
    let seen = asked_kind k.At c.directives.cursor c.kind.result false c.kind.ensures c.directives-test.ensures in
    directives_some reads of_bool c.args.is_const c.args.cursor.now c.directives.cursor c.directives.found (λ none. let e = c.if-is_empty.ensures.1 none in cc) (all_stopped (only k.At) item c.directives.invariant.reads seen)
