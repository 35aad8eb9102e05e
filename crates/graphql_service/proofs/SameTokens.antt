-- Requests whose texts have the same tokens are answered alike.
use Rattle.std.proofs.Common.{◌≡◌, sym, ◌∙◌, ap, subst, List, [], Option, Some, None}
use Rattle.std.specs.Str.{chars}
use Rattle.graphql_names.specs.Names.{Bytes}
use Rattle.graphql_values.specs.InputValues.{Placed}
use Rattle.graphql_values.specs.declared.input_value.InputValue.{InputValue}
use Rattle.graphql_tree.specs.Unlocated.{unlocated_document, unlocated_operation}
use Rattle.graphql_tree.specs.declared.document.Definition.{Definition}
use Rattle.graphql_tree.specs.declared.document.Operation.{Operation}
use Rattle.graphql_schema.specs.Declarations.{declarations_of}
use Rattle.graphql_schema.specs.declared.root_node.RootNode.{RootNode}
use Rattle.graphql_execution_walk.specs.declared.asked.Asked.TheVariants as asked
use Rattle.graphql_plain_answers.specs.Lawful.{IsLawful}
use Rattle.graphql_plain_answers.specs.WithoutPlaces.{unlocated_run}
use Rattle.graphql_plain_requests.specs.PlainRequests.{asked_at}
use Rattle.graphql_requests.specs.Asked.{OneIsExecuted}
use Rattle.graphql_schema.specs.Scalars.{Scalars}
use Rattle.graphql_executor.specs.Executed.{Yields, runs}
use Rattle.graphql_executor.specs.Resolvers.{Resolver}
use Rattle.graphql_plain_requests.specs.Laws.{AreValidAlike}
use Rattle.graphql_plain_requests.specs.Laws.{SameTokensAreAskedAlike}
use Rattle.graphql_plain_requests.proofs.AskedAlike.{executed-again}
use Rattle.graphql_service.specs.TokenLaws.{SameTokensSameAnswer}
use Rattle.graphql_plain_answers.specs.Laws.{SameDocumentsAnswerAlike}
use Rattle.graphql_service.proofs.AlikeYields.{yield-alike}

module _ {S C N X : Type 0} (s : Scalars S C) (root : RootNode S C) (r : Resolver S N X)
    (valid : AreValidAlike s (declarations_of root.schema))
    (asked_alike : SameTokensAreAskedAlike s root)
    (one_executed : OneIsExecuted s) (lawful : IsLawful s.eq r.answer r.changes)
    (law : SameDocumentsAnswerAlike s.of_text s.of_bool s.answer s.eq C N X) where
  runs-alike : (given : Bytes → Option (InputValue S)) (document again : List (Definition S))
      (o x : Operation S)
      → unlocated_document document ≡ unlocated_document again → unlocated_operation o
      ≡ unlocated_operation x
      → (name : Option Bytes) (c : X)
      → unlocated_run (runs s root.schema r document given o name c)
      ≡ unlocated_run (runs s root.schema r again given x name c)
  runs-alike given document again o x documents operations name c =
      let both = law root.schema r.type_of r.answer r.changes lawful given document again o x
      documents operations in
      let at : (n : Option Bytes)
      → unlocated_run (runs s root.schema r document given o n c)
      ≡ unlocated_run (runs s root.schema r again given x n c) = elim [
        | None ↦ λ i. record {
          outcome = both.as_query c [] root.schema.query (asked.Own r.root) i;
          after = c;
        }
        | Some n ↦ both.as_mutation c n
      ] in
      at name

  pub same-tokens-same-answer : SameTokensSameAnswer s root r
  same-tokens-same-answer one other name given utf8 utf8_other alike = record {
    asked = asked_alike one other name given utf8 utf8_other alike;
    answered = λ cmp old new after answered told errors others y z.
        let again = executed-again s root valid name given one other alike y.document y.operation
        y.executable in
        let theirs =
        one_executed (asked_at root (chars other) name given) again.again z.document again.operation
        z.operation again.executable z.executable in
        let second : Yields s root.schema r again.again given again.operation.item cmp old told
        others after =
        subst (λ (d : List (Definition S)). Yields s root.schema r d given again.operation.item cmp
        old told others after) theirs.0
        (subst (λ (p : Placed (Operation S)). Yields s root.schema r z.document given p.item cmp old
        told others after) theirs.1 z.yields) in
        let kind = ap (λ (p : Operation S). p.operation_type) (sym again.same_operations) in
        yield-alike s root.schema r given y.document again.again y.operation.item
        again.operation.item kind
        (runs-alike given y.document again.again y.operation.item again.operation.item
        again.documents again.same_operations)
        cmp old new after answered told errors others y.yields second;
  }
