use Rattle.std.proofs.Common.{rules, subst, ◌∙◌}
use Rattle.std.specs.Str.{chars}
use Rattle.graphql_lexer.specs.Records.{IsRecorded}
use Rattle.graphql_text.specs.Memory.{UnlessMemory}
use Rattle.graphql_text.specs.Refusals.{IsLexical, IsMemory}
use Rattle.graphql_stores.proofs.CachedAnswers.{refuses-request}
use Rattle.graphql_stores.proofs.ReadOnce.{lexical-read}
use Rattle.graphql_stores.proofs.reading.AnswerCache+S+R+R+Context.answer_request.Goals as goal

pub answer_records-requires-clause-recorded : goal.answer_records-requires-clause-recorded
answer_records-requires-clause-recorded g c =
    subst (λ t. IsRecorded (chars t) c.in-Ok.records) c.as_str.ensures.value c.in-Ok.ensures.tokens

pub returns-in-Err : goal.returns-in-Err
returns-in-Err g c =
    let fault = c.in-Err.fault in
    let lexical =
    subst (λ t. UnlessMemory IsMemory fault (IsLexical (chars t) fault)) c.as_str.ensures.value
    c.in-Err.ensures.fault in
    refuses-request _ c.args.self.now c.args.line.now c.args.out.now.items
    c.append_refusal.new.out.items c.append_refusal.result c.from-error.result
    c.append_refusal.ensures.answers c.append_refusal.ensures.memory c.append_refusal.ensures.kept
    (λ is. rw c.from-error.ensures
    (lexical-read _ c.args.line.now c.args.request.now c.requires fault lexical (search rules)
    (λ none. is (c.from-error.ensures ∙ none))))
