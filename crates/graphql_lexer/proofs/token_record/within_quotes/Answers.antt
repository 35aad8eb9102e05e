use Rattle.graphql_lexer.proofs.RecordLemmas.{behind_quote}
use Rattle.graphql_lexer.proofs.token_record.within_quotes.Goals as goal

pub range-requires-clause-start_boundary : goal.range-requires-clause-start_boundary
range-requires-clause-start_boundary c = λ _. behind_quote c.args.text.now c.utf8.text c.requires
