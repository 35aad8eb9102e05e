use Rattle.std.proofs.Common.{◌+◌, ◌-◌, ◌^◌, ◌≤◌, drop, length}
use Rattle.graphql_merging.specs.FieldNodes.{fields_written}
use Rattle.graphql_schema.specs.Declarations.{declarations_of}
use Rattle.graphql_set_table.specs.Numbered.{DefinitionsFirst}
use Rattle.graphql_set_table.specs.Reading.{nodes_in, sets_at}
use Rattle.graphql_set_table.proofs.TableLemmas.{AreRead}
use Rattle.graphql_set_table.proofs.table.add_sets.Given as goal

-- the sets so far are read
abbrev pub invariant-sets : goal.invariant-sets
invariant-sets g l = record {
  count : length l.table.sets ≤ length l.ahead;
  definitions : DefinitionsFirst (declarations_of l.schema) l.fragments.document.now (sets_at l.ahead);
  each : AreRead (declarations_of l.schema) l.fragments.document.now (sets_at l.ahead) l.table.sets;
  once :
      fields_written l.table.sets + nodes_in (drop (length l.table.sets) (sets_at l.ahead))
      ≤ nodes_in (sets_at l.initial.ahead);
}

abbrev pub decreases-sets : goal.decreases-sets
decreases-sets g l = 2 ^ 64 - length l.table.sets
