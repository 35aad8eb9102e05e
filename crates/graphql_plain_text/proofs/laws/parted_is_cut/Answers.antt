use Rattle.graphql_plain_text.proofs.PartedTexts.{parted-is-cut}
use Rattle.graphql_plain_text.proofs.laws.parted_is_cut.Goals as goal

pub returns : goal.returns
returns c = λ xs h. let r = parted-is-cut xs h in (r.tokens, r.finish, r.cut, r.same)
