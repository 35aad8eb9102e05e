use Rattle.graphql_language.specs.Parser.{MaybeToken}
use Rattle.graphql_language.proofs.Calls.{calls_kept}
use Rattle.graphql_language.proofs.parser.Parser.skip.Goals as goal

pub returns-clause-calls : goal.returns-clause-calls
returns-clause-calls c = calls_kept (MaybeToken c.args.expected.now) _ _ _ _ c.self.view_is c.in_ok-ready.ensures c.maybe_token-answer.ensures.reads c.keep_refusal.ensures
