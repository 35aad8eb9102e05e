use Rattle.graphql_language.specs.Parser.{NextToken}
use Rattle.graphql_language.proofs.Calls.{calls_kept}
use Rattle.graphql_language.proofs.parser.Parser.next_token.Goals as goal

pub returns-clause-calls : goal.returns-clause-calls
returns-clause-calls c = calls_kept NextToken _ _ _ _ c.self.view_is c.in_ok-ready.ensures c.next_token-answer.ensures.reads c.keep_refusal.ensures
