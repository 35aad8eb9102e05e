use Rattle.std.proofs.Common.{refl}
use Rattle.graphql_schema.specs.Declarations.{declarations_of}
use Rattle.graphql_set_table.proofs.ReadingLemmas.{reads-field, field-once}
use Rattle.graphql_set_table.proofs.reading.read_field.Goals as goal

pub returns-clause-reads : goal.returns-clause-reads
returns-clause-reads g c =
    reads-field (declarations_of c.args.schema.now) c.args.ahead.now c.push.new.self c.set_of_field.result
    c.args.parent.now c.args.field.now c.args.written.now
    (record { selected = record { parent = c.args.parent; field = c.args.field }; own = c.len-own.result })
    c.push-2.new.self c.in_ok-push.ensures.ok c.set_of_field.ensures c.len-own.ensures refl c.in_ok-push-2.ensures.ok

pub returns-clause-once : goal.returns-clause-once
returns-clause-once g c =
    field-once (declarations_of c.args.schema.now) c.args.ahead.now c.push.new.self c.set_of_field.result
    c.args.parent.now c.args.field.now c.args.written.now
    (record { selected = record { parent = c.args.parent; field = c.args.field }; own = c.len-own.result })
    c.push-2.new.self c.in_ok-push.ensures.ok c.set_of_field.ensures c.in_ok-push-2.ensures.ok
