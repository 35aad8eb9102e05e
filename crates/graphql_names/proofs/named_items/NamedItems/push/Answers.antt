use Rattle.graphql_names.proofs.IndexInsertions.{pushed}
use Rattle.graphql_names.proofs.named_items.NamedItems.push.Goals as goal

pub invariant_of-self-in-Ok : goal.invariant_of-self-in-Ok
invariant_of-self-in-Ok g c =
    pushed g.T.Named.name_of c.self.inside.items c.as_slice.result.now c.as_slice.ensures c.self.inside.by_name c.as_slice-2.result.now c.as_slice-2.ensures c.self.invariant
    c.args.item c.name.result.now c.name.ensures c.end_of-end.result c.end_of-end.ensures.bound c.end_of-end.ensures.split
    c.len-place.result c.push.new.self c.insert.new.self c.len-place.ensures c.in_ok-push.ensures.ok c.in-Ok.ensures.ok
