use Rattle.graphql_schema.specs.Declarations.{declarations_of}
use Rattle.graphql_set_table.proofs.ReadingLemmas.{reads-inline, inline-once}
use Rattle.graphql_set_table.proofs.reading.read_inline.Goals as goal

pub returns-clause-reads : goal.returns-clause-reads
returns-clause-reads g c =
    reads-inline (declarations_of c.args.schema.now) c.args.ahead.now c.push.new.self c.set_of_inline.result _
    c.args.fragment.now c.args.written.now c.len-number.result c.push-2.new.self
    c.in_ok-push.ensures.ok c.set_of_inline.ensures c.len-number.ensures c.in_ok-push-2.ensures.ok

pub returns-clause-once : goal.returns-clause-once
returns-clause-once g c =
    inline-once (declarations_of c.args.schema.now) c.args.ahead.now c.push.new.self c.set_of_inline.result _
    c.args.fragment.now c.args.written.now c.push-2.new.self c.in_ok-push.ensures.ok c.set_of_inline.ensures
