-- The response keys that an iterator has yet to give.
use Rattle.std.specs.Prelude.{List, map}
use Rattle.std.specs.Slice.Iter.{iter_rest}
use Rattle.graphql_names.specs.Names as bytes
use Rattle.graphql_look_ahead.specs.Told.{key_of, document_field}
use Rattle.graphql_look_ahead.specs.declared.children.names.Names.{Names}
use Rattle.graphql_look_ahead.specs.declared.selection.LookAheadSelection.{LookAheadSelection}

module _ {S C : Type 0} where
  abbrev pub key_at : LookAheadSelection S C → bytes.Bytes
  key_at child = key_of (document_field child)

  abbrev pub names_left : Names S C → List bytes.Bytes
  names_left names = map key_at (iter_rest names.rest)
