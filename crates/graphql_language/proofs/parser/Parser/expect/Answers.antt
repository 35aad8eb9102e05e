use Rattle.graphql_language.specs.Parser.{ThisToken}
use Rattle.graphql_language.proofs.Calls.{calls_kept}
use Rattle.graphql_language.proofs.parser.Parser.expect.Goals as goal

pub returns-clause-calls : goal.returns-clause-calls
returns-clause-calls c = calls_kept (ThisToken c.args.expected.now) _ _ _ _ c.self.view_is c.in_ok-ready.ensures c.this_token-answer.ensures.reads c.keep_refusal.ensures
