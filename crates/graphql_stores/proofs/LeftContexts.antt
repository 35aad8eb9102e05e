-- A query leaves the context.
use Rattle.std.proofs.Common.{◌≡◌, refl, sym, ◌∙◌, ap, subst, ℕ, true, false, List, ◌∷◌, codes, nat_eq}
use Rattle.std.specs.List.{starts_with}
use Rattle.std.proofs.lemmas.Option.{same_Some}
use Rattle.graphql_names.specs.Names.{Bytes}
use Rattle.graphql_text.specs.declared.token.Token.{Token}
use Rattle.graphql_text.specs.declared.token.Token.TheVariants as t
use Rattle.graphql_tree.specs.declared.document.OperationType.{OperationType}
use Rattle.graphql_tree.specs.declared.document.OperationType.TheVariants as kind
use Rattle.graphql_plain_text.specs.PlainTexts.{parted_text}
use Rattle.graphql_plain_text.specs.TreeTokens.{keyword}
use Rattle.graphql_requests.specs.Asked.{OneIsExecuted}
use Rattle.graphql_executor.specs.Answered.{IsExecutable}
use Rattle.graphql_lines.specs.Request.{Request}
use Rattle.graphql_service.specs.Answers.{Answerer, asked_by}
use Rattle.graphql_service.specs.ApartLaws.{AsksMutation}
use Rattle.graphql_service.specs.PlainAnswers.{HasPlain}
use Rattle.graphql_service.proofs.AnsweredApart.{line-left}
use Rattle.graphql_stores.specs.Laws.{QueriesLeaveTheContext}

-- a text that begins with the word `query` is that of a query
of-query : (type : OperationType) (rest : List Token)
    → starts_with nat_eq (parted_text (t.Name (keyword type) ∷ rest)) (codes "query") ≡ true
    → type ≡ kind.Query
of-query kind.Query rest e = refl
of-query kind.Mutation rest e = absurd (let both : false ≡ true = e in cc)
of-query kind.Subscription rest e = absurd (let both : false ≡ true = e in cc)

module _ {S C N X : Type 0} (a : Answerer S C N X) (one_executed : OneIsExecuted a.scalars) where
  asks-none : (line plain : Bytes) (size_limit : ℕ) → HasPlain a size_limit line plain
      → starts_with nat_eq plain (codes "query") ≡ true → AsksMutation a line → ⊥
  asks-none line plain size_limit has begins asks =
      let same : asks.request ≡ has.request =
      same_Some asks.request has.request (sym asks.asks.asked ∙ has.asks.asked) in
      let executable : IsExecutable a.scalars (asked_by a line has.request) asks.document asks.operation =
      subst (λ (q : Request). IsExecutable a.scalars (asked_by a line q) asks.document asks.operation)
      same asks.executable in
      let h = has.is.plain in
      let operations =
      (one_executed (asked_by a line has.request) h.document asks.document h.operation asks.operation
      h.executable executable).1 in
      let here : h.operation.item.operation_type ≡ kind.Query =
      of-query h.operation.item.operation_type _
      (ap (λ b. starts_with nat_eq b (codes "query")) (sym h.is) ∙ begins) in
      let both : kind.Query ≡ kind.Mutation =
      sym here ∙ ap (λ o. o.item.operation_type) (sym operations) ∙ asks.changes in
      absurd (cc)

  pub queries-leave : QueriesLeaveTheContext a
  queries-leave size_limit line plain text old new has begins answer =
      line-left a line (asks-none line plain size_limit has begins) old new text answer
