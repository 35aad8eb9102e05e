use Rattle.graphql_names.proofs.NameLemmas.{same_whole}
use Rattle.graphql_names.proofs.named_items.same_name.Goals as goal

pub returns : goal.returns
returns c =
    same_whole c.args.one.now c.args.other.now c.as_bytes-bytes.result.now c.as_bytes-others.result.now c.as_bytes-bytes.ensures.value c.as_bytes-others.ensures.value
    c.bytes.place c.bytes-test.false c.if-bytes-others.false c.bytes.invariant
