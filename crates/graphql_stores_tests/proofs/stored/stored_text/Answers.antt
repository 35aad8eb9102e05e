use Rattle.std.proofs.Common.{refl}
use Rattle.std.proofs.lemmas.Bool.{false≢true}
use Rattle.graphql_stores_tests.proofs.StoredAsked.{request-allowed, request-not-allowed, text-allowed}
use Rattle.graphql_stores_tests.proofs.stored.stored_text.Goals as goal

pub returns-then-allows-clause-exactly : goal.returns-then-allows-clause-exactly
returns-then-allows-clause-exactly g c = (
  (λ _. request-allowed _ c.args.root_node.now c.args.store.now c.args.limit c.args.request.now c.as_str.result.now _
      c.in_ok-text.ensures.plain c.as_str.ensures.value c.allows.result c.allows.ensures c.if-allows.true),
  (λ _. refl),
)

pub returns-then-allows-clause-plain : goal.returns-then-allows-clause-plain
returns-then-allows-clause-plain g c = c.in_ok-text.ensures.plain

pub returns-then-allows-clause-allowed : goal.returns-then-allows-clause-allowed
returns-then-allows-clause-allowed g c = λ takes.
    text-allowed _ c.args.root_node.now c.args.store.now c.args.limit c.args.request.now c.as_str-query.result.now
    c.as_str.result.now _ c.as_str-query.utf8 c.as_str-query.ensures.value c.in_ok-text.ensures.plain c.as_str.ensures.value
    c.allows.result c.allows.ensures c.if-allows.true c.stored_texts_are_allowed.ensures takes

pub returns-else-allows-clause-exactly : goal.returns-else-allows-clause-exactly
returns-else-allows-clause-exactly g c = (
  (λ some. absurd (false≢true some)),
  (λ h. absurd (request-not-allowed _ c.args.root_node.now c.args.store.now c.args.limit c.args.request.now
      c.as_str.result.now _ c.in_ok-text.ensures.plain c.as_str.ensures.value c.allows.result c.allows.ensures
      c.plain_texts_are_one.ensures c.if-allows.false h)),
)
