use Rattle.graphql_value_syntax.proofs.TypeSteps.{mark_read, mark_none}
use Rattle.graphql_grammar.specs.declared.kind.Kind.TheVariants as k
use Rattle.graphql_grammar.specs.Kinds.{only}
use Rattle.graphql_grammar.proofs.Leaves.{behind_after}
use Rattle.graphql_value_syntax.proofs.type_reference.non_null.Goals as goal

pub returns-then-not-eat-clause-ok : goal.returns-then-not-eat-clause-ok
returns-then-not-eat-clause-ok c = λ name. mark_none name c.args.found.now c.args.cursor.now c.eat.ensures.result c.if-not-eat.true c.eat.ensures.after

pub returns-clause-ok : goal.returns-clause-ok
returns-clause-ok c = λ name. mark_read name c.args.found.now c.args.cursor.now c.eat.ensures.result c.if-not-eat.false c.eat.ensures.after c.in_ok-keep.ensures.ok

pub returns-then-not-eat-clause-behind : goal.returns-then-not-eat-clause-behind
returns-then-not-eat-clause-behind c = behind_after (only k.ExclamationMark) c.eat.ensures.after

pub returns-in_err-keep-clause-behind : goal.returns-in_err-keep-clause-behind
returns-in_err-keep-clause-behind c = behind_after (only k.ExclamationMark) c.eat.ensures.after

pub returns-clause-behind : goal.returns-clause-behind
returns-clause-behind c = behind_after (only k.ExclamationMark) c.eat.ensures.after
