use Rattle.graphql_language.specs.Literals.{NextType}
use Rattle.graphql_language.proofs.Calls.{calls_kept}
use Rattle.graphql_language.proofs.LiteralLaws.{reads_by_type, fewer_by_type}
use Rattle.graphql_language.proofs.parser.literals.parse_type.Goals as goal

pub returns-clause-calls : goal.returns-clause-calls
returns-clause-calls c = calls_kept NextType _ _ _ _ c.parser.view_is c.in_ok-ready.ensures (reads_by_type _ _ _ c.type_reference-answer.ensures.reads c.type_reference-answer.ensures.behind c.type_reference-answer.ensures.stands) c.keep_refusal.ensures

pub returns-clause-fewer : goal.returns-clause-fewer
returns-clause-fewer c = fewer_by_type _ _ _ (returns-clause-calls c)
