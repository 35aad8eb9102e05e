-- Fields of a document as members of sets.
use Rattle.std.specs.Prelude.{List}
use Rattle.graphql_tree.specs.declared.document.Fragment.{Fragment}
use Rattle.graphql_written_out.specs.Written.{listed, head_of, written}
use Rattle.graphql_merging.specs.declared.selected.SelectedField.{SelectedField}
use Rattle.graphql_merging.specs.Members.{Member}

-- a field of a document, its fragments written out
abbrev pub member_of : {S C : Type 0} → List (Fragment S) → SelectedField S C → Member S C
member_of fragments f = record {
  parent = f.parent.now;
  head = head_of f.field.now;
  below = written fragments (listed f.field.now.item.selection_set);
}
