use Rattle.graphql_values.specs.declared.conversions.arrays.FromInputValueArrayError.TheVariants as array_error
use Rattle.graphql_values.specs.declared.conversions.lists.FromInputValueVecError.TheVariants as vec_error
use Rattle.graphql_law_rows.specs.SampleScalars.{no_integer}
use Rattle.graphql_law_rows.proofs.scalars.reasons_of_integers_are_texts.Goals as goal

pub returns-clause-list : goal.returns-clause-list
returns-clause-list c = c.reasons_of_lists_are_texts.ensures.list c.reasons_are_texts.ensures.scalar vec_error.Null

pub returns-clause-array : goal.returns-clause-array
returns-clause-array c =
    c.reasons_of_lists_are_texts.ensures.array c.reasons_are_texts.ensures.scalar (array_error.Item no_integer)
