use Rattle.graphql_values.proofs.ConversionLemmas.{Answers-exactly}
use Rattle.graphql_values.proofs.conversions.arrays.ArrayFromInputValue.from_input_value.Goals as goal

pub returns-in-Ok : goal.returns-in-Ok
returns-in-Ok g c =
    Answers-exactly g.row.N g.T.FromInputValue.means g.T.FromInputValue.refuses _ c.args.value.now c.in-Ok.meant.items c.exactly.result c.in_default.ensures c.in-Ok.ensures c.exactly.ensures
