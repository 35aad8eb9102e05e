use Rattle.std.proofs.Common.{◌<◌}
use Rattle.graphql_grammar.specs.Input.{left}
use Rattle.graphql_language.specs.ReadSelections.{selection, selection_set}
use Rattle.graphql_language.proofs.OpenSets.{SetsLeft}
use Rattle.graphql_language.proofs.parse.selection.selection_set.Given as goal

abbrev pub decreases-selections : goal.decreases-selections
decreases-selections g l = left l.cursor

abbrev pub invariant-selections : goal.invariant-selections
invariant-selections g l =
    let reads = g.S.ParseScalarValue.reads in
    let of_bool = g.S.ScalarValue.of_bool in
    record {
      reads : SetsLeft reads of_bool (selection_set reads of_bool (selection reads of_bool) l.fn.cursor) l.outer l.found l.cursor;
      fewer : left l.cursor < left l.fn.cursor;
    }
