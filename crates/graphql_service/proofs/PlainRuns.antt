-- An operation and its plain operation yield the same.
use Rattle.std.proofs.Common.{◌≡◌, refl, [], Option, Some, None}
use Rattle.graphql_names.specs.Names.{Bytes}
use Rattle.graphql_tree.specs.Documents.{variables_in}
use Rattle.graphql_written_out.specs.FinalValues.{final_value}
use Rattle.graphql_execution_walk.specs.declared.asked.Asked.TheVariants as asked
use Rattle.graphql_plain_answers.specs.Laws.{PlainDocumentIsPlain, PlainDocumentsAnswerAlike}
use Rattle.graphql_plain_answers.specs.WithoutPlaces.{unlocated_run}
use Rattle.graphql_schema.specs.Scalars.{Scalars}
use Rattle.graphql_executor.specs.Executed.{runs}
use Rattle.graphql_service.specs.Yields.{PlainOperationsYieldAlike, PlainRunsAreAlike}
use Rattle.graphql_service.proofs.AlikeYields.{yield-alike}

module _ {S C N X : Type 0} (s : Scalars S C) where
  pub plain-runs : PlainDocumentsAnswerAlike s.of_text s.of_bool s.answer s.eq C N X
      → PlainRunsAreAlike s N X
  plain-runs law schema r lawful given others document o again x pair agree root c =
      let both =
      law schema r.type_of r.answer r.changes lawful given others document again o pair.filled
      pair.same agree x pair.among in
      let at-root : (name : Option Bytes)
      → unlocated_run (runs s schema r document given o name c)
      ≡ unlocated_run (runs s schema r again others x.item name c) = elim [
        | None ↦ λ i. record {
          outcome = both.as_query c [] schema.query (asked.Own r.root) i;
          after = c;
        }
        | Some name ↦ both.as_mutation c name
      ] in
      at-root root

  pub plain-yields : PlainRunsAreAlike s N X → PlainDocumentIsPlain s.answer s.of_bool
      → PlainOperationsYieldAlike s N X
  plain-yields law is schema r lawful given document o again x pair
      cmp old new after answered told errors others y z =
      let whole = final_value given (variables_in o.variable_definitions) in
      let kind : x.item.operation_type ≡ o.operation_type =
      (is whole document again o pair.filled pair.same x pair.among).kind in
      yield-alike s schema r given document again o x.item kind
      (λ root c. law schema r lawful given given document o again x pair (λ name used. refl) root c)
      cmp old new after answered told errors others y z
