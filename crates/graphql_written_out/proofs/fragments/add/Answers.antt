use Rattle.graphql_written_out.proofs.FragmentLemmas.{fragment-added}
use Rattle.graphql_written_out.proofs.fragments.add.Goals as goal

pub returns-in_ok-insert : goal.returns-in_ok-insert
returns-in_ok-insert g c =
    fragment-added c.args.definition.now c.in-Fragment.fragment c.in-Fragment.is c.as_str-name.result.now c.as_str-name.ensures c.args.number c.contains_key.result c.args.numbers.now c.insert.new.self
    c.contains_key.ensures c.if-not-contains_key.true c.in_ok-insert.ensures.updates
