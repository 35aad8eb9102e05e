use Rattle.std.proofs.Common.{ap, option_map, refl, sym, subst, ◌∙◌}
use Rattle.graphql_schema.proofs.MeantScalars.{scalars_of}
use Rattle.graphql_schema.specs.Declarations.{declarations_of}
use Rattle.graphql_requests.specs.Validity.{HasNoFault}
use Rattle.graphql_stores.proofs.CachedAnswers.{refuses-request}
use Rattle.graphql_stores.proofs.ReadOnce.{accepted-read, stopped-read}
use Rattle.graphql_stores.proofs.reading.AnswerCache+S+R+R+Context.answer_document.Goals as goal

pub answer_accepted-requires : goal.answer_accepted-requires
answer_accepted-requires g c =
    let scalars = scalars_of g.S.ParseScalarValue g.S.ScalarValue g.S.PartialEq g.S.Check.Check in
    let document = c.args.document.now in
    let its_schema = ap (λ n. n.schema) c.root_node-root_node.ensures in
    let valid =
    subst (λ s. HasNoFault scalars
    (record { schema = declarations_of s; document = document }))
    (sym (c.schema.ensures ∙ its_schema)) c.requires.read.valid.valid.no_fault in
    let settled = c.documents_without_a_fault_are_settled.ensures document valid in
    accepted-read _ c.args.line.now c.args.request.now c.args.records.now document c.requires
    c.root_node-root_node.result.now.schema its_schema
    (option_map (λ t. t.now) c.operation_name_of-name.result) c.operation_name_of-name.ensures _ refl refl
    settled c.in-Ok.ensures.ready

pub returns-in-Err : goal.returns-in-Err
returns-in-Err g c =
    refuses-request _ c.args.self.now c.args.line.now c.args.out.now.items
    c.append_refusal.new.out.items c.append_refusal.result c.in-Err.error
    c.append_refusal.ensures.answers c.append_refusal.ensures.memory c.append_refusal.ensures.kept
    (stopped-read _ c.args.line.now c.args.request.now c.args.records.now c.args.document.now
    c.requires c.root_node-root_node.result.now.schema
    (ap (λ n. n.schema) c.root_node-root_node.ensures)
    (option_map (λ t. t.now) c.operation_name_of-name.result) c.operation_name_of-name.ensures
    c.in-Err.error c.in-Err.ensures.refused c.in-Err.ensures.sorted)
