use Rattle.graphql_language.specs.Parser.{NextName}
use Rattle.graphql_language.proofs.Calls.{calls_kept}
use Rattle.graphql_language.proofs.parser.Parser.expect_name.Goals as goal

pub returns-clause-calls : goal.returns-clause-calls
returns-clause-calls c = calls_kept NextName _ _ _ _ c.self.view_is c.in_ok-ready.ensures c.name-answer.ensures.reads c.keep_refusal.ensures
