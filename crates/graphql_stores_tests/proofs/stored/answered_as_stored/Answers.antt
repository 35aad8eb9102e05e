use Rattle.std.proofs.Common.{refl}
use Rattle.std.proofs.lemmas.Bool.{false≢true}
use Rattle.graphql_stores_tests.proofs.StoredAsked.{request-allowed, request-not-allowed, text-stands}
use Rattle.graphql_stores_tests.proofs.stored.answered_as_stored.Goals as goal

pub returns-then-not-allows-clause-exactly : goal.returns-then-not-allows-clause-exactly
returns-then-not-allows-clause-exactly g c = (
  (λ some. absurd (false≢true some)),
  (λ h. absurd (request-not-allowed _ c.args.root_node.now c.args.store.now c.args.limit c.args.request.now
      c.as_str.result.now _ c.in_ok-plain.ensures.plain c.as_str.ensures.value c.allows.result c.allows.ensures
      c.plain_texts_are_one.ensures c.if-not-allows.true h)),
)

pub returns-clause-exactly : goal.returns-clause-exactly
returns-clause-exactly g c = (
  (λ _. request-allowed _ c.args.root_node.now c.args.store.now c.args.limit c.args.request.now c.as_str.result.now _
      c.in_ok-plain.ensures.plain c.as_str.ensures.value c.allows.result c.allows.ensures c.if-not-allows.false),
  (λ _. refl),
)

pub returns-clause-alike : goal.returns-clause-alike
returns-clause-alike g c = λ takes.
    text-stands _ c.args.root_node.now c.args.store.now c.args.limit c.args.request.now c.as_str-query.result.now
    c.as_str.result.now _ c.as_str-query.utf8 c.as_str-query.ensures.value c.in_ok-plain.ensures.plain c.as_str.ensures.value
    c.allows.result c.allows.ensures c.if-not-allows.false _ c.stored_texts_stand_for_requests.ensures takes _
    c.operation_name_of-name.ensures _ _ _ _ _ c.in_ok-answer.ensures.answered
