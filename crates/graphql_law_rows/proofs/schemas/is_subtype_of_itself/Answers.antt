use Rattle.graphql_law_rows.proofs.schemas.is_subtype_of_itself.Goals as goal

pub returns : goal.returns
returns g c = c.is_subtype.ensures.decides.1 c.subtype_is_reflexive.ensures
