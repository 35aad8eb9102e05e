use Rattle.std.proofs.Common.{Err, ap, ◌∙◌, arith}
use Rattle.graphql_grammar.specs.declared.kind.Kind.TheVariants as k
use Rattle.graphql_grammar.proofs.Parts.{exits_with}
use Rattle.graphql_grammar.proofs.Turns.{until_closed, until_refused, until_more, until_ended}
use Rattle.graphql_value_syntax.specs.ReadValues.{name_and, value}
use Rattle.graphql_value_syntax.proofs.directive.argument_list.Goals as goal

pub returns-then-eat-clause-reads : goal.returns-then-eat-clause-reads
returns-then-eat-clause-reads g c =
    let item = name_and (value g.S.ParseScalarValue.reads g.S.ScalarValue.of_bool c.args.is_const) in
    until_closed k.ParenClose item c.arguments.invariant.reads c.arguments-test.true c.eat.ensures.result c.if-eat.true c.eat.ensures.after

pub returns-in_err-named-2-clause-reads : goal.returns-in_err-named-2-clause-reads
returns-in_err-named-2-clause-reads g c =
    let item = name_and (value g.S.ParseScalarValue.reads g.S.ScalarValue.of_bool c.args.is_const) in
    exits_with c.from_residual-in_err-named-2.result c.named-in-arguments.new.cursor c.from_residual-in_err-named-2.ensures.1 c.in_err-named-2.ensures.reads
    (λ read. until_refused k.ParenClose item c.arguments.invariant.reads c.arguments-test.true c.eat.ensures.result c.if-eat.false c.eat.ensures.after read)

pub arguments-preserved : goal.arguments-preserved
arguments-preserved g c =
    let item = name_and (value g.S.ParseScalarValue.reads g.S.ScalarValue.of_bool c.args.is_const) in
    record {
      reads = until_more k.ParenClose item c.arguments.invariant.reads c.arguments-test.true c.eat.ensures.result c.if-eat.false c.eat.ensures.after c.in_ok-named-2.ensures.reads c.in_ok-keep-2.ensures.ok;
      no_more = omega arith;
    }

pub returns-clause-reads : goal.returns-clause-reads
returns-clause-reads g c = λ told.
    let item = name_and (value g.S.ParseScalarValue.reads g.S.ScalarValue.of_bool c.args.is_const) in
    until_ended k.ParenClose item c.arguments.invariant.reads c.arguments-test.false ∙ ap Err (c.refuse.ensures told)
