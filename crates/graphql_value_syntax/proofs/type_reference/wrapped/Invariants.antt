use Rattle.std.proofs.Common.{◌≤◌}
use Rattle.graphql_grammar.specs.Input.{left}
use Rattle.graphql_grammar.specs.Leaves.{Behind}
use Rattle.graphql_value_syntax.specs.ReadWraps.{behind}
use Rattle.graphql_value_syntax.proofs.TypeSteps.{WrapsLeft}
use Rattle.graphql_value_syntax.proofs.type_reference.wrapped.Given as goal

abbrev pub invariant-loop-level : goal.invariant-loop-level
invariant-loop-level l = record {
  reads : WrapsLeft (behind l.depth l.name l.fn.cursor) l.depth l._level l.name l.modifiers l.cursor;
  behind : Behind l.fn.cursor l.cursor;
  no_more : left l.cursor ≤ left l.fn.cursor;
}
