-- The pieces that a table of a document's selection sets holds.
use Rattle.std.specs.Prelude.{List, [], map, slice_get}
use Rattle.std.specs.Option.{option_map_or}
use Rattle.graphql_tree.specs.declared.document.Fragment.{Fragment}
use Rattle.graphql_merging.specs.declared.table.SetTable.{SetTable}
use Rattle.graphql_merging.specs.declared.table.WrittenField.{WrittenField}
use Rattle.graphql_merging.specs.Pieces.{Pieces, PieceField}
use Rattle.graphql_merging.specs.Selected.{member_of}

module _ {S C : Type 0} (fragments : List (Fragment S)) where
  -- a field of the table, its fragments written out
  abbrev pub piece_field : WrittenField S C → PieceField S C
  piece_field f = record { member = member_of fragments f.selected; own = f.own }

  -- a number that the table does not have stands for an empty set
  abbrev pub pieces_of : SetTable S C → Pieces S C
  pieces_of table = record {
    direct = λ p. map piece_field (option_map_or (λ set. set.fields) (slice_get table.sets p) []);
    inner = λ p. option_map_or (λ set. set.inner) (slice_get table.sets p) [];
  }
