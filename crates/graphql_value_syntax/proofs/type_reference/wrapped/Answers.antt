use Rattle.std.proofs.Common.{arith}
use Rattle.graphql_grammar.proofs.Leaves.{behind_then}
use Rattle.graphql_grammar.proofs.Parts.{exits}
use Rattle.graphql_value_syntax.proofs.TypeSteps.{wraps_start, wraps_more, wraps_refused, wraps_end}
use Rattle.graphql_value_syntax.proofs.type_reference.wrapped.Goals as goal

pub loop-level-init : goal.loop-level-init
loop-level-init c =
    record {
      reads = wraps_start c.args.depth c.args.name c.args.cursor.now c.new-modifiers.ensures (c.in_ok-non_null.ensures.ok c.args.name);
      behind = c.in_ok-non_null.ensures.behind;
      no_more = c.in_ok-non_null.ensures.no_more;
    }

pub returns-in_err-expect-clause-reads : goal.returns-in_err-expect-clause-reads
returns-in_err-expect-clause-reads c =
    exits c.from_residual-in_err-expect.result c.expect.new.self c.from_residual-in_err-expect.ensures.1
    (λ told. wraps_refused c.loop-level.invariant.reads c.loop-level-test.true (c.in_err-expect.ensures.reads told))

pub loop-level-preserved : goal.loop-level-preserved
loop-level-preserved c =
    record {
      reads = wraps_more c.loop-level.invariant.reads c.loop-level-test.true c.in_ok-expect.ensures.reads c.in_ok-keep.ensures.ok (c.in_ok-non_null-2.ensures.ok c.args.name);
      behind = behind_then c.loop-level.invariant.behind (behind_then c.in_ok-expect.ensures.behind c.in_ok-non_null-2.ensures.behind);
      no_more = omega arith;
    }

pub returns-clause-reads : goal.returns-clause-reads
returns-clause-reads c = wraps_end c.loop-level.invariant.reads c.loop-level-test.false

pub returns-in_err-keep-clause-behind : goal.returns-in_err-keep-clause-behind
returns-in_err-keep-clause-behind c = behind_then c.loop-level.invariant.behind c.in_ok-expect.ensures.behind

pub returns-in_err-non_null-2-clause-behind : goal.returns-in_err-non_null-2-clause-behind
returns-in_err-non_null-2-clause-behind c = behind_then c.loop-level.invariant.behind (behind_then c.in_ok-expect.ensures.behind c.in_err-non_null-2.ensures.behind)
