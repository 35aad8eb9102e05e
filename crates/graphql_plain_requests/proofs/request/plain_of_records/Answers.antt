use Rattle.std.proofs.Common.{Result, Err, Ok, inl, option_map, sym, subst}
use Rattle.std.specs.HashMap.{get_by_text}
use Rattle.std.specs.String.{string_bytes}
use Rattle.graphql_schema.proofs.MeantScalars.{scalars_of}
use Rattle.graphql_schema.specs.Declarations.{declarations_of}
use Rattle.graphql_requests.specs.Asked.{Asking}
use Rattle.graphql_schema.specs.Scalars.{Scalars}
use Rattle.graphql_requests.specs.Validity.{HasNoFault}
use Rattle.graphql_plain_print.specs.declared.printed.Printed.{Printed}
use Rattle.graphql_plain_requests.specs.PlainRequests.{asked_at}
use Rattle.graphql_plain_requests.specs.declared.plain_error.PlainError.{PlainError}
use Rattle.graphql_plain_requests.proofs.Refused.{executable-at, handed-on, larger, printed, stopped-at}
use Rattle.graphql_plain_requests.proofs.request.plain_of_records.Goals as goal

pub returns-in_err-document-clause-refused : goal.returns-in_err-document-clause-refused
returns-in_err-document-clause-refused g c = λ text recorded.
    let s : Scalars g.row.S.Denot g.row.S-Check.Denot = record {
      reads = g.S.ParseScalarValue.reads;
      of_bool = g.S.ScalarValue.of_bool;
      of_int = g.S.ScalarValue.of_int;
      of_text = g.S.ScalarValue.of_text;
      eq = g.S.PartialEq.eq;
      answer = g.S.ScalarValue.answer;
      accepts = g.S.Check.Check.accepts;
    } in
    let a : Asking g.row.S.Denot g.row.S-Check.Denot =
    asked_at c.args.root_node.now text (option_map (λ name. name.now) c.args.operation_name) (get_by_text c.args.variables.now) in
    handed-on s a c.args.limit _ c.from_residual.result c.in_err-document.field-0.0 c.from_residual.ensures.1
    (inl (record { unread = c.in_err-document.ensures.refused text recorded; sorted = c.in_err-document.ensures.sorted }))

pub returns-in_err-operation-clause-refused : goal.returns-in_err-operation-clause-refused
returns-in_err-operation-clause-refused g c = λ text recorded.
    let s : Scalars g.row.S.Denot g.row.S-Check.Denot = record {
      reads = g.S.ParseScalarValue.reads;
      of_bool = g.S.ScalarValue.of_bool;
      of_int = g.S.ScalarValue.of_int;
      of_text = g.S.ScalarValue.of_text;
      eq = g.S.PartialEq.eq;
      answer = g.S.ScalarValue.answer;
      accepts = g.S.Check.Check.accepts;
    } in
    let a : Asking g.row.S.Denot g.row.S-Check.Denot =
    asked_at c.args.root_node.now text (option_map (λ name. name.now) c.args.operation_name) (get_by_text c.args.variables.now) in
    handed-on s a c.args.limit _ c.from_residual-in_err-operation.result c.in_err-operation.field-0.0
    c.from_residual-in_err-operation.ensures.1
    (stopped-at s a c.args.limit _ c.in_ok-document.document c.as_slice-definitions.result.now c.as_slice-definitions.ensures
    (c.in_ok-document.ensures.read text recorded) c.in_err-operation.field-0.0 c.in_err-operation.ensures.refused c.in_err-operation.ensures.sorted)

pub plain_of_chosen-requires : goal.plain_of_chosen-requires
plain_of_chosen-requires g c =
    let scalars = scalars_of g.S.ParseScalarValue g.S.ScalarValue g.S.PartialEq g.S.Check.Check in
    let document = c.in_ok-document.document in
    let valid =
    subst (λ s. HasNoFault scalars (record { schema = declarations_of s; document = document }))
    (sym c.schema.ensures) c.in_ok-document.ensures.valid.valid.no_fault in
    rw c.as_slice-definitions.ensures (c.documents_without_a_fault_are_settled.ensures document valid)

pub returns-in-Ok-clause-plain : goal.returns-in-Ok-clause-plain
returns-in-Ok-clause-plain g c = λ text recorded.
    let s : Scalars g.row.S.Denot g.row.S-Check.Denot = record {
      reads = g.S.ParseScalarValue.reads;
      of_bool = g.S.ScalarValue.of_bool;
      of_int = g.S.ScalarValue.of_int;
      of_text = g.S.ScalarValue.of_text;
      eq = g.S.PartialEq.eq;
      answer = g.S.ScalarValue.answer;
      accepts = g.S.Check.Check.accepts;
    } in
    let a : Asking g.row.S.Denot g.row.S-Check.Denot =
    asked_at c.args.root_node.now text (option_map (λ name. name.now) c.args.operation_name) (get_by_text c.args.variables.now) in
    let d = c.as_slice-definitions.result.now in
    let o = c.in_ok-operation.operation.now in
    let r : Result Printed PlainError = Ok c.in-Ok.printed in
    printed s a c.args.limit d o
    (executable-at s a c.args.limit c.in_ok-document.document d c.as_slice-definitions.ensures
    (c.in_ok-document.ensures.read text recorded) o c.in_ok-operation.ensures.ready)
    (λ (p : Printed). string_bytes p.text) r c.args.records.now.tokens c.args.records.now.finish
    recorded c.in-Ok.ensures.plain

pub returns-clause-refused : goal.returns-clause-refused
returns-clause-refused g c = λ text recorded.
    let s : Scalars g.row.S.Denot g.row.S-Check.Denot = record {
      reads = g.S.ParseScalarValue.reads;
      of_bool = g.S.ScalarValue.of_bool;
      of_int = g.S.ScalarValue.of_int;
      of_text = g.S.ScalarValue.of_text;
      eq = g.S.PartialEq.eq;
      answer = g.S.ScalarValue.answer;
      accepts = g.S.Check.Check.accepts;
    } in
    let a : Asking g.row.S.Denot g.row.S-Check.Denot =
    asked_at c.args.root_node.now text (option_map (λ name. name.now) c.args.operation_name) (get_by_text c.args.variables.now) in
    let d = c.as_slice-definitions.result.now in
    let o = c.in_ok-operation.operation.now in
    let r : Result Printed PlainError = Err c.in-Err.error in
    larger s a c.args.limit d o
    (executable-at s a c.args.limit c.in_ok-document.document d c.as_slice-definitions.ensures
    (c.in_ok-document.ensures.read text recorded) o c.in_ok-operation.ensures.ready)
    _ r c.in-Err.ensures.large
