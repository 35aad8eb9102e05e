use Rattle.std.proofs.Common.{List, subst, sym}
use Rattle.std.specs.HashMap.{get_by_text}
use Rattle.graphql_tree.specs.declared.document.Definition.{Definition}
use Rattle.graphql_schema.proofs.MeantScalars.{scalars_of}
use Rattle.graphql_schema.specs.Declarations.{declarations_of}
use Rattle.graphql_schema.specs.declared.root_node.RootNode.{RootNode}
use Rattle.graphql_requests.specs.Validity.{HasNoFault}
use Rattle.graphql_validation.specs.AllRules.{IsValid}
use Rattle.graphql_executor.specs.Requests.{Scalars}
use Rattle.graphql_executor.specs.Resolvers.{Resolver}
use Rattle.graphql_service_tests.proofs.InParts.{joined}
use Rattle.graphql_service_tests.proofs.service.in_parts.parts_of_query.Goals as goal

pub data_of_query-requires-clause-settled : goal.data_of_query-requires-clause-settled
data_of_query-requires-clause-settled g c =
    let scalars = scalars_of g.S.ParseScalarValue g.S.ScalarValue g.S.PartialEq g.S.Check.Check in
    let document = c.in_ok-document.document in
    let valid = subst (λ s. HasNoFault scalars
    (record { schema = declarations_of s; document = document })) (sym c.schema.ensures)
    c.in_ok-document.ensures.read.valid.valid.no_fault in
    rw c.as_slice-definitions.ensures (c.documents_without_a_fault_are_settled.ensures document valid)

pub data_of_query-requires-2-clause-settled : goal.data_of_query-requires-2-clause-settled
data_of_query-requires-2-clause-settled g c =
    let scalars = scalars_of g.S.ParseScalarValue g.S.ScalarValue g.S.PartialEq g.S.Check.Check in
    let document = c.in_ok-document.document in
    let valid = subst (λ s. HasNoFault scalars
    (record { schema = declarations_of s; document = document })) (sym c.schema.ensures)
    c.in_ok-document.ensures.read.valid.valid.no_fault in
    rw c.as_slice-definitions.ensures (c.documents_without_a_fault_are_settled.ensures document valid)

pub data_of_query-requires-3-clause-settled : goal.data_of_query-requires-3-clause-settled
data_of_query-requires-3-clause-settled g c =
    let scalars = scalars_of g.S.ParseScalarValue g.S.ScalarValue g.S.PartialEq g.S.Check.Check in
    let document = c.in_ok-document.document in
    let valid = subst (λ s. HasNoFault scalars
    (record { schema = declarations_of s; document = document })) (sym c.schema.ensures)
    c.in_ok-document.ensures.read.valid.valid.no_fault in
    rw c.as_slice-definitions.ensures (c.documents_without_a_fault_are_settled.ensures document valid)

pub returns : goal.returns
returns g c = λ alike.
    let s : Scalars g.row.S.Denot g.row.S-Check.Denot = record {
      reads = g.S.ParseScalarValue.reads;
      of_bool = g.S.ScalarValue.of_bool;
      of_int = g.S.ScalarValue.of_int;
      of_text = g.S.ScalarValue.of_text;
      eq = g.S.PartialEq.eq;
      answer = g.S.ScalarValue.answer;
      accepts = g.S.Check.Check.accepts;
    } in
    let service = c.args.service.now in
    let resolver = service.resolver in
    let q = g.R.GraphQLValue in
    let r : Resolver g.row.S.Denot g.row.R-Node.Denot g.row.R-Context.Denot = record {
      root = q.root_node resolver;
      type_of = q.type_of resolver;
      answer = q.answer resolver;
      changes = g.R.GraphQLMutationValue.changes resolver;
    } in
    let read = c.in_ok-document.ensures.read.valid.valid in
    let here =
    subst (λ (n : RootNode g.row.S.Denot g.row.S-Check.Denot). IsValid s
    (record { schema = declarations_of n.schema; document = c.in_ok-document.document }))
    c.root_node-root.ensures read in
    let valid =
    subst (λ (d : List (Definition g.row.S.Denot)). IsValid s
    (record { schema = declarations_of service.root_node.schema; document = d }))
    (sym c.as_slice-definitions.ensures) here in
    joined s service.root_node r c.as_slice-definitions.result.now (get_by_text c.args.variables.now)
    c.parts_of_queries_join.ensures alike valid c.in_ok-query.query.now c.in_ok-first.first
    c.in_ok-others.others (sym c.in_ok-query.ensures) c.in-Query.is c.in_ok-first.ensures
    c.in_ok-others.ensures c.args.context.now c.data_of_query.new.context
    c.data_of_query-2.new.context c.in_ok-first-2.ensures.kept c.in_ok-others-2.ensures.kept _ _ _
    c.in_ok-first-2.ensures.answered c.in_ok-others-2.ensures.answered c.in_ok-all.ensures.answered
