use Rattle.std.proofs.Common.{◌≤◌}
use Rattle.graphql_grammar.specs.Input.{left}
use Rattle.graphql_grammar.specs.Leaves.{Behind}
use Rattle.graphql_value_syntax.specs.ReadNested as spec
use Rattle.graphql_value_syntax.proofs.OpenValues.{PartsLeft}
use Rattle.graphql_value_syntax.proofs.nested.rest.Given as goal

abbrev pub decreases-parts : goal.decreases-parts
decreases-parts g l = left l.cursor

abbrev pub invariant-parts : goal.invariant-parts
invariant-parts g l =
    record {
      reads : PartsLeft g.S.ParseScalarValue.reads g.S.ScalarValue.of_bool l.is_const (spec.rest g.S.ParseScalarValue.reads g.S.ScalarValue.of_bool l.is_const l.fn.outermost l.fn.cursor) l.outer l.holder l.cursor;
      behind : Behind l.fn.cursor l.cursor;
      no_more : left l.cursor ≤ left l.fn.cursor;
    }
