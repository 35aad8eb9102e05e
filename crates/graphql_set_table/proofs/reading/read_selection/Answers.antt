use Rattle.std.proofs.lemmas.Result.{on_ok_weaker}
use Rattle.graphql_merging.specs.FieldNodes.{selection_nodes}
use Rattle.graphql_schema.specs.Declarations.{declarations_of}
use Rattle.graphql_set_table.specs.Reading.{sets_at}
use Rattle.graphql_set_table.proofs.ReadingLemmas.{both-ok, reads-spread, spread-once}
use Rattle.graphql_set_table.proofs.reading.read_selection.Goals as goal

pub returns-in-Field-clause-once : goal.returns-in-Field-clause-once
returns-in-Field-clause-once g c = rw c.in-Field.is c.read_field.ensures.once

pub returns-in-FragmentSpread-clause-reads : goal.returns-in-FragmentSpread-clause-reads
returns-in-FragmentSpread-clause-reads g c =
    both-ok _ _ _ c.read_spread.result
    (λ same grown. reads-spread (declarations_of c.args.schema.now) c.args.fragments.now.document.now c.args.parent.now
    (sets_at c.args.ahead.now) c.args.written.now c.read_spread.new.written c.args.selection.now
    c.in-FragmentSpread.spread c.requires c.in-FragmentSpread.is same grown)
    c.read_spread.ensures.fields c.read_spread.ensures.inner

pub returns-in-FragmentSpread-clause-once : goal.returns-in-FragmentSpread-clause-once
returns-in-FragmentSpread-clause-once g c =
    on_ok_weaker c.read_spread.result
    (λ same. spread-once (sets_at c.args.ahead.now) c.args.written.now c.read_spread.new.written
    (selection_nodes c.args.selection.now) same)
    c.read_spread.ensures.fields

pub returns-in-InlineFragment-clause-once : goal.returns-in-InlineFragment-clause-once
returns-in-InlineFragment-clause-once g c = rw c.in-InlineFragment.is c.read_inline.ensures.once
