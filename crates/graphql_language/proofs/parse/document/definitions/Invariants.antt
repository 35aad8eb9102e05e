use Rattle.std.proofs.Common.{◌≤◌}
use Rattle.graphql_grammar.specs.Input.{left}
use Rattle.graphql_grammar.proofs.Turns.{AllLeft}
use Rattle.graphql_language.specs.ReadDocuments.{definition_kinds, definition}
use Rattle.graphql_language.specs.ReadDefinitions.{definitions}
use Rattle.graphql_language.proofs.parse.document.definitions.Given as goal

abbrev pub decreases-definitions : goal.decreases-definitions
decreases-definitions g l = left l.cursor

abbrev pub invariant-definitions : goal.invariant-definitions
invariant-definitions g l =
    let reads = g.S.ParseScalarValue.reads in
    let of_bool = g.S.ScalarValue.of_bool in
    record {
      reads : AllLeft definition_kinds (definition reads of_bool) (definitions reads of_bool l.fn.cursor) l.found l.cursor;
      no_more : left l.cursor ≤ left l.fn.cursor;
    }
