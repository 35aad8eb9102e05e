use Rattle.std.proofs.Common.{◌≤◌}
use Rattle.graphql_grammar.specs.declared.kind.Kind.TheVariants as k
use Rattle.graphql_grammar.specs.Input.{left}
use Rattle.graphql_grammar.specs.Steps.{some_between}
use Rattle.graphql_grammar.proofs.Turns.{UntilLeft}
use Rattle.graphql_value_syntax.specs.ReadValues.{name_and, value}
use Rattle.graphql_value_syntax.proofs.directive.argument_list.Given as goal

abbrev pub invariant-arguments : goal.invariant-arguments
invariant-arguments g l =
    let item = name_and (value g.S.ParseScalarValue.reads g.S.ScalarValue.of_bool l.is_const) in
    record {
      reads : UntilLeft k.ParenClose item (some_between k.ParenOpen k.ParenClose item l.fn.cursor) l._turn-end l._turn l.found l.cursor;
      no_more : left l.cursor ≤ left l.fn.cursor;
    }
