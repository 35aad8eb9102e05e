use Rattle.graphql_lexer.proofs.TextLemmas.{tail_le}
use Rattle.graphql_lexer.proofs.recording.record_between.Goals as goal

pub overflow_sub-result : goal.overflow_sub-result
overflow_sub-result c = tail_le c.args.source.now c.args.start.now c.utf8.source c.utf8.start c.requires.before

pub overflow_sub-result-2 : goal.overflow_sub-result-2
overflow_sub-result-2 c = tail_le c.args.start.now c.args.end.now c.utf8.start c.utf8.end c.requires.own
