use Rattle.std.proofs.Common.{refl}
use Rattle.std.proofs.lemmas.Bool.{false≢true}
use Rattle.graphql_law_rows.proofs.schemas.list_without_null_is_a_list.Goals as goal

pub returns-clause-allowed : goal.returns-clause-allowed
returns-clause-allowed c = c.wrapped_subtype_decides.ensures.0 refl

pub returns-clause-other_way : goal.returns-clause-other_way
returns-clause-other_way c = λ is. false≢true (c.wrapped_subtype_decides-2.ensures.1 is)
