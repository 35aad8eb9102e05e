use Rattle.graphql_language.proofs.NextTokens.{reads_by_name, reads_by_no_name}
use Rattle.graphql_language.proofs.parser.tokens.name.Goals as goal

pub returns-in-Ok-clause-reads : goal.returns-in-Ok-clause-reads
returns-in-Ok-clause-reads c = reads_by_name c.args.cursor.now c.name.new.self c.in-Ok.name c.closed.result c.start-start.result c.in-Ok.ensures.reads c.start-start.ensures c.closed.ensures

pub returns-in-Err-clause-reads : goal.returns-in-Err-clause-reads
returns-in-Err-clause-reads c = reads_by_no_name c.args.cursor.now c.name.new.self c.in-Err.fault c.in-Err.ensures.reads c.in-Err.ensures.stays
