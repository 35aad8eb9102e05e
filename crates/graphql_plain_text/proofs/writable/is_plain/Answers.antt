use Rattle.graphql_plain_text.proofs.WritableLemmas.{plain_passed}
use Rattle.graphql_plain_text.proofs.writable.is_plain.Goals as goal

pub returns : goal.returns
returns c = plain_passed c.args.text.now c.characters.rest.now c.utf8.text c.in_default.ensures.chars c.characters.invariant.1
