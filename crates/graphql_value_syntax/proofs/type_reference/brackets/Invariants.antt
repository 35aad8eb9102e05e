use Rattle.std.proofs.Common.{◌≡◌, ◌+◌}
use Rattle.graphql_grammar.specs.Input.{left, ◌>>=◌}
use Rattle.graphql_grammar.specs.Leaves.{Behind}
use Rattle.graphql_value_syntax.specs.ReadTypes.{bare_type, type_ref}
use Rattle.graphql_value_syntax.specs.ReadWraps.{closing_brackets}
use Rattle.graphql_value_syntax.proofs.type_reference.brackets.Given as goal

abbrev pub invariant-loop-depth : goal.invariant-loop-depth
invariant-loop-depth l = record {
  reads : bare_type type_ref l.fn.cursor ≡ (bare_type type_ref >>= closing_brackets l.depth) l.cursor;
  behind : Behind l.fn.cursor l.cursor;
  count : l.depth + left l.cursor ≡ l.most;
}
