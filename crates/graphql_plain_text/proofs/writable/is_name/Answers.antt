use Rattle.graphql_plain_text.proofs.WritableLemmas.{name_test_is}
use Rattle.graphql_plain_text.proofs.writable.is_name.Goals as goal

pub returns : goal.returns
returns c = name_test_is c.args.text.now c.is_valid.result c.utf8.text c.is_valid.ensures
