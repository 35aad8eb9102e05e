use Rattle.std.proofs.Common.{ap}
use Rattle.graphql_stores.proofs.CachedAnswers.{refuses-request}
use Rattle.graphql_stores.proofs.ReadOnce.{document-read, unread}
use Rattle.graphql_stores.proofs.reading.AnswerCache+S+R+R+Context.answer_records.Goals as goal

pub answer_document-requires : goal.answer_document-requires
answer_document-requires g c =
    document-read _ c.args.line.now c.args.request.now c.requires.asks c.root_node.result.now
    (ap (λ n. n.schema) c.root_node.ensures) (ap (λ n. n.introspection_disabled) c.root_node.ensures)
    c.args.records.now c.requires.recorded c.in-Ok.document c.as_slice.result.now c.as_slice.ensures
    (c.in-Ok.ensures.read _ c.requires.recorded)

pub returns-in-Err : goal.returns-in-Err
returns-in-Err g c =
    refuses-request _ c.args.self.now c.args.line.now c.args.out.now.items
    c.append_refusal.new.out.items c.append_refusal.result c.in-Err.error
    c.append_refusal.ensures.answers c.append_refusal.ensures.memory c.append_refusal.ensures.kept
    (unread _ c.args.line.now c.args.request.now c.requires.asks c.root_node.result.now
    (ap (λ n. n.schema) c.root_node.ensures) (ap (λ n. n.introspection_disabled) c.root_node.ensures)
    c.in-Err.error (c.in-Err.ensures.refused _ c.requires.recorded) c.in-Err.ensures.sorted)
