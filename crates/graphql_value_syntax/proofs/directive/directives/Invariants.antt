use Rattle.std.proofs.Common.{◌≤◌, []}
use Rattle.graphql_grammar.specs.declared.kind.Kind.TheVariants as k
use Rattle.graphql_grammar.specs.Kinds.{only}
use Rattle.graphql_grammar.specs.Input.{left}
use Rattle.graphql_grammar.specs.Steps.{all}
use Rattle.graphql_grammar.proofs.Turns.{AllLeft}
use Rattle.graphql_value_syntax.specs.ReadDirectives.{directive}
use Rattle.graphql_value_syntax.proofs.directive.directives.Given as goal

abbrev pub decreases-directives : goal.decreases-directives
decreases-directives g l = left l.cursor

abbrev pub invariant-directives : goal.invariant-directives
invariant-directives g l =
    let item = directive g.S.ParseScalarValue.reads g.S.ScalarValue.of_bool l.is_const in
    record {
      reads : AllLeft (only k.At) item (all (only k.At) item [] l.fn.cursor) l.found l.cursor;
      no_more : left l.cursor ≤ left l.fn.cursor;
    }
