use Rattle.graphql_schema.specs.Declarations.{declarations_of}
use Rattle.graphql_set_table.specs.Reading.{sets_at}
use Rattle.graphql_set_table.proofs.ReadingLemmas.{reads-nothing, reads-more, once-nothing, once-selection}
use Rattle.graphql_set_table.proofs.reading.read_selections.Goals as goal

pub selections-init : goal.selections-init
selections-init g c = record {
  reads = reads-nothing (declarations_of c.args.schema.now) (sets_at c.args.ahead.now) c.args.written.now;
  once = once-nothing (sets_at c.args.ahead.now) c.args.written.now;
}

pub selections-preserved : goal.selections-preserved
selections-preserved g c =
    let before = sets_at c.args.ahead.now in
    let now = sets_at c.selections.ahead in
    let new = sets_at c.read_selection.new.ahead in
    let selections = c.args.selections.now in
    record {
      reads =
          reads-more (declarations_of c.args.schema.now) c.args.fragments.now.document.now c.args.parent.now
          before now new c.args.written.now c.selections.written c.read_selection.new.written selections
          c.selections.selection-index c.selection-item.result c.selections-test.true c.selection-item.is
          c.selections.invariant.reads c.in_ok-read_selection.ensures.reads;
      once =
          once-selection before now new c.args.written.now c.selections.written c.read_selection.new.written selections
          c.selections.selection-index c.selection-item.result c.selections-test.true c.selection-item.is
          c.selections.invariant.once c.in_ok-read_selection.ensures.once;
    }
