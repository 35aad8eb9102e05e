-- What is answered to a plain text is answered to each line that has it.
use Rattle.std.proofs.Common.{◌≡◌, sym, ◌∙◌, subst, []}
use Rattle.std.proofs.lemmas.Option.{same_Some}
use Rattle.graphql_output_values.specs.declared.value.Value.{Value}
use Rattle.graphql_executor.specs.Answered.{IsAnswered}
use Rattle.graphql_lines.specs.Request.{Request}
use Rattle.graphql_service.specs.AnsweredBy.{AnsweredBy}
use Rattle.graphql_service.specs.Answers.{Answerer, answerer_of, asked_by, executed_to, given}
use Rattle.graphql_service.specs.MeaningLaws.{PlainIsAnsweredAlike}
use Rattle.graphql_service.specs.declared.service.Service.{Service}
use Rattle.graphql_stores.specs.Laws.{AnswersAreShared}
use Rattle.graphql_stores.specs.Stored.{with_query}
use Rattle.graphql_stores.proofs.KeptMembers.{values-kept}

module _ {S C N X R : Type 0} (answering : AnsweredBy S C N X R) (service : Service S R X C) where
  abbrev a : Answerer S C N X
  a = answerer_of answering service

  pub answers-are-shared : PlainIsAnsweredAlike answering.scalars service.root_node (answering.resolving service.resolver)
      → AnswersAreShared answering service
  answers-are-shared too takes line other plain text context shared =
      let has = shared.has.has in
      let request = has.request in
      let own = with_query request plain shared.names in
      let both = λ (found : Value S). too takes request.query request.operation_name (given answering.scalars request)
      (given answering.scalars own) plain shared.utf8 has.is.plain
      (values-kept answering.scalars request plain shared.names _ shared.has.uses) answering.by_fields context context found in (
        (λ whole.
            let same : whole.request ≡ own = same_Some whole.request own (sym whole.asked ∙ shared.asked) in
            executed_to whole.found [] (record {
              request = request;
              asks = has.asks;
              answers = (both whole.found).1
                  (subst (λ (q : Request). IsAnswered answering.scalars (asked_by a other q) a.resolver answering.by_fields context whole.found [] context)
                  same whole.answers);
            }) whole.is),
        (λ whole.
            let same : whole.request ≡ request = same_Some whole.request request (sym whole.asked ∙ has.asks.asked) in
            record {
              request = own;
              asked = shared.asked;
              found = whole.found;
              answers = (both whole.found).0
                  (subst (λ (q : Request). IsAnswered answering.scalars (asked_by a line q) a.resolver answering.by_fields context whole.found [] context)
                  same whole.answers);
              is = whole.is;
            }),
      )
