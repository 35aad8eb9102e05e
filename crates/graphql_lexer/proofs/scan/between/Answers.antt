use Rattle.std.proofs.Common.{◌∙◌, rules}
use Rattle.graphql_lexer.proofs.TextLemmas.{tail_le, tail_boundary, between_is}
use Rattle.graphql_lexer.proofs.scan.between.Goals as goal

pub overflow_sub-whole : goal.overflow_sub-whole
overflow_sub-whole c = tail_le _ _ c.utf8.whole c.utf8.rest c.requires

pub range-front-requires-clause-end_boundary : goal.range-front-requires-clause-end_boundary
range-front-requires-clause-end_boundary c = tail_boundary _ _ c.utf8.whole c.utf8.rest c.requires

pub returns : goal.returns
returns c = c.new.ensures ∙ between_is _ _ c.range-front.result.now c.utf8.whole c.utf8.rest c.range-front.utf8 c.requires (search rules)
