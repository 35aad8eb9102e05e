use Rattle.std.proofs.Common.{take}
use Rattle.std.specs.List.{flat_map}
use Rattle.graphql_schema.specs.Declarations.{declarations_of}
use Rattle.graphql_merging.specs.FieldNodes.{set_nodes}
use Rattle.graphql_tree.specs.Definitions.{fragments_listed}
use Rattle.graphql_set_table.specs.Reading.{ReadsSet, ReadsOnce, sets_at}
use Rattle.graphql_set_table.specs.SetsAt.{fields_selected, inner_of}
use Rattle.graphql_set_table.proofs.reading.read_selections.Given as goal

-- the selections so far are read
abbrev pub invariant-selections : goal.invariant-selections
invariant-selections g l = record {
  reads :
      ReadsSet (declarations_of l.schema) (sets_at l.initial.ahead) (sets_at l.ahead) l.initial.written l.written
      (flat_map (fields_selected l.parent) (take l.selection-index l.selections))
      (flat_map (inner_of (declarations_of l.schema) (fragments_listed l.fragments.document.now) l.parent)
      (take l.selection-index l.selections));
  once :
      ReadsOnce (sets_at l.initial.ahead) (sets_at l.ahead) l.initial.written l.written
      (set_nodes (take l.selection-index l.selections));
}
