-- A request and its plain text mean the same.
use Rattle.std.proofs.Common.{◌∙◌, ap, subst, List}
use Rattle.std.specs.Str.{chars}
use Rattle.graphql_values.specs.InputValues.{Placed}
use Rattle.graphql_tree.specs.Unlocated.{unlocated_document}
use Rattle.graphql_tree.specs.declared.document.Definition.{Definition}
use Rattle.graphql_tree.specs.declared.document.Operation.{Operation}
use Rattle.graphql_schema.specs.declared.root_node.RootNode.{RootNode}
use Rattle.graphql_plain_answers.specs.Lawful.{IsLawful}
use Rattle.graphql_plain_requests.specs.AcceptedAgain.{IsPlainPair}
use Rattle.graphql_plain_requests.specs.Laws.{PlainTextsAreDocuments}
use Rattle.graphql_plain_requests.specs.PlainRequests.{asked_at}
use Rattle.graphql_requests.specs.Asked.{OneIsExecuted}
use Rattle.graphql_schema.specs.Scalars.{Scalars}
use Rattle.graphql_requests.proofs.ChosenOperations.{chosen-listed}
use Rattle.graphql_executor.specs.Executed.{Yields}
use Rattle.graphql_executor.specs.Resolvers.{Resolver}
use Rattle.graphql_service.specs.MeaningLaws.{PlainMeansTheSame}
use Rattle.graphql_service.specs.Yields.{PlainOperationsYieldAlike}

module _ {S C N X : Type 0} (s : Scalars S C) (root : RootNode S C) (r : Resolver S N X) where
  pub plain-means-the-same : PlainTextsAreDocuments s root → OneIsExecuted s
      → IsLawful s.eq r.answer r.changes → PlainOperationsYieldAlike s N X
      → PlainMeansTheSame s root r
  plain-means-the-same documents one_executed lawful alike source name given bytes utf8 text
      cmp old new after answered told errors others y z =
      let there = documents source name given bytes utf8 text in
      let pair : IsPlainPair s given there.document there.operation.item z.document z.operation =
      record {
        filled = there.filled;
        same =
            ap unlocated_document (there.is.only z.document z.executable.read.spelled)
            ∙ there.is.same;
        among = chosen-listed name z.document z.operation z.executable.ready.chosen;
      } in
      let ours =
      one_executed (asked_at root (chars source) name given) there.document y.document
      there.operation y.operation there.executable y.executable in
      let first : Yields s root.schema r there.document given there.operation.item cmp old answered
      errors new =
      subst
      (λ (d : List (Definition S)). Yields s root.schema r d given there.operation.item cmp old
      answered errors new)
      ours.0
      (subst
      (λ (o : Placed (Operation S)). Yields s root.schema r y.document given o.item cmp old
      answered errors new)
      ours.1 y.yields) in
      alike root.schema r lawful given there.document there.operation.item z.document z.operation
      pair cmp old new after answered told errors others first z.yields
