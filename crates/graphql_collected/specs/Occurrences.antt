-- A field of a document where it applies.
use Rattle.std.specs.Prelude.{List}
use Rattle.graphql_values.specs.InputValues.{Placed}
use Rattle.graphql_tree.specs.declared.document.Fragment.{Fragment}
use Rattle.graphql_tree.specs.declared.selection.Field.{Field}
use Rattle.graphql_written_out.specs.Fields.{Found}
use Rattle.graphql_written_out.specs.Written.{written, head_of, listed}

-- the field that stands at a place, its set with its fragments written out
abbrev pub found_field : {S : Type 0} → List (Fragment S) → Placed (Field S) → Found S
found_field fragments x =
    record { head = head_of x; below = written fragments (listed x.item.selection_set) }
