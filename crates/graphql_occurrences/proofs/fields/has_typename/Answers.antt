use Rattle.graphql_occurrences.proofs.TypenameLemmas.{composite_is}
use Rattle.graphql_occurrences.proofs.fields.has_typename.Goals as goal

pub returns : goal.returns
returns g c = composite_is c.args.meta.now c.is_composite.result c.is_composite.ensures
