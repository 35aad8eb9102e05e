use Rattle.std.proofs.Common.{◌≡◌, ap, ◌∙◌, refl, arith}
use Rattle.graphql_grammar.specs.declared.kind.Kind.TheVariants as k
use Rattle.graphql_grammar.specs.Kinds.{only}
use Rattle.graphql_grammar.proofs.Leaves.{behind_same, behind_then, behind_after}
use Rattle.graphql_value_syntax.specs.ReadWraps.{inside}
use Rattle.graphql_value_syntax.proofs.TypeSteps.{brackets_start, brackets_more, brackets_end, brackets_all, bracket_fewer}
use Rattle.graphql_value_syntax.proofs.type_reference.brackets.Goals as goal

pub loop-depth-init : goal.loop-depth-init
loop-depth-init c = record { reads = brackets_start c.args.cursor.now; behind = behind_same refl; count = omega (arith, c.left-most.ensures) }

pub returns-then-not-eat-clause-inside : goal.returns-then-not-eat-clause-inside
returns-then-not-eat-clause-inside c = brackets_end c.loop-depth.depth c.loop-depth.cursor c.loop-depth.invariant.reads c.eat.ensures.result c.if-not-eat.true c.eat.ensures.after

pub returns-then-not-eat-clause-no_more : goal.returns-then-not-eat-clause-no_more
returns-then-not-eat-clause-no_more c =
    let count = c.loop-depth.invariant.count in
    let most = c.left-most.ensures in
    let fewer = c.eat.ensures.no_more in
    omega arith

pub loop-depth-preserved : goal.loop-depth-preserved
loop-depth-preserved c =
    let count = c.loop-depth.invariant.count in
    let below = c.loop-depth-test.true in
    let fewer = bracket_fewer c.loop-depth.cursor c.eat.ensures.result c.if-not-eat.false c.eat.ensures.after in
    record {
      reads = brackets_more c.loop-depth.depth c.loop-depth.cursor c.loop-depth.invariant.reads c.eat.ensures.result c.if-not-eat.false c.eat.ensures.after;
      behind = behind_then c.loop-depth.invariant.behind (behind_after (only k.BracketOpen) c.eat.ensures.after);
      count = omega arith;
    }

pub returns-clause-inside : goal.returns-clause-inside
returns-clause-inside c =
    let count = c.loop-depth.invariant.count in
    let done = c.loop-depth-test.false in
    let within = c.loop-depth.auto.depth-end in
    let same : c.loop-depth.depth ≡ c.left-most.result = omega arith in
    brackets_all c.loop-depth.depth c.loop-depth.cursor c.loop-depth.invariant.reads (omega arith) ∙ ap (λ d. inside d c.loop-depth.cursor) same

pub returns-clause-no_more : goal.returns-clause-no_more
returns-clause-no_more c =
    let count = c.loop-depth.invariant.count in
    let most = c.left-most.ensures in
    omega arith

pub returns-then-not-eat-clause-behind : goal.returns-then-not-eat-clause-behind
returns-then-not-eat-clause-behind c = behind_then c.loop-depth.invariant.behind (behind_after (only k.BracketOpen) c.eat.ensures.after)
