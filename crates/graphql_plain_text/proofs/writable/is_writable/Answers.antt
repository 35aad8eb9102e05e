use Rattle.graphql_plain_text.proofs.WritableLemmas.{writable_is}
use Rattle.graphql_plain_text.proofs.writable.is_writable.Goals as goal

pub returns : goal.returns
returns c = writable_is c.args.is_const c.passes.result c.args.value.now c.passes.ensures
