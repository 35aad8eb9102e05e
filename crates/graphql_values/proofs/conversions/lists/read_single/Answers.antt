use Rattle.graphql_values.proofs.ConversionLemmas.{RefusesItem-single}
use Rattle.graphql_values.proofs.conversions.lists.read_single.Goals as goal

pub returns-in-Err : goal.returns-in-Err
returns-in-Err g c =
    λ other. RefusesItem-single _ _ _ _ c.requires.not_null c.requires.not_list (c.in-Err.ensures other)
