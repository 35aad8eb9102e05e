use Rattle.graphql_law_rows.specs.SampleScalars.{written, bad, unknown_escape}
use Rattle.graphql_law_rows.proofs.SampleScalars.{are_pieces, pieces, q_is_no_escape, spell_written}
use Rattle.graphql_law_rows.proofs.scalars.strings_are_read_by_their_pieces.Goals as goal

pub returns-clause-read : goal.returns-clause-read
returns-clause-read c = c.strings_mean_their_pieces.ensures written pieces are_pieces spell_written

pub returns-clause-refused : goal.returns-clause-refused
returns-clause-refused c = (c.first_bad_escape_is_told.ensures bad unknown_escape).1 q_is_no_escape
