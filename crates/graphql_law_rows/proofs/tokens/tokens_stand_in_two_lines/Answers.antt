use Rattle.graphql_law_rows.specs.SampleTokens.{two_lines, tokens}
use Rattle.graphql_law_rows.proofs.tokens.tokens_stand_in_two_lines.Goals as goal

pub returns-clause-few : goal.returns-clause-few
returns-clause-few c = c.few_tokens.ensures two_lines tokens c.two_lines_are_divided.ensures.divided

pub returns-clause-in_order : goal.returns-clause-in_order
returns-clause-in_order c = c.spans_in_order.ensures two_lines tokens c.two_lines_are_divided.ensures.divided

pub returns-clause-positions : goal.returns-clause-positions
returns-clause-positions c = c.places_are_positions.ensures two_lines tokens c.two_lines_are_divided.ensures.divided

pub returns-clause-spelled : goal.returns-clause-spelled
returns-clause-spelled c = c.slices_spell.ensures two_lines tokens c.two_lines_are_divided.ensures.divided

pub returns-clause-sources : goal.returns-clause-sources
returns-clause-sources c = c.sources_are_slices.ensures two_lines tokens c.two_lines_are_divided.ensures.divided

pub returns-clause-wide : goal.returns-clause-wide
returns-clause-wide c = c.tokens_are_wide.ensures two_lines tokens c.two_lines_are_divided.ensures.divided

pub returns-clause-in_a_line : goal.returns-clause-in_a_line
returns-clause-in_a_line c = c.tokens_in_a_line.ensures two_lines tokens c.two_lines_are_divided.ensures.divided
