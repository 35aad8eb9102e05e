use Rattle.std.proofs.Common.{◌∙◌, string_bytes}
use Rattle.graphql_stores_tests.proofs.StoredAsked.{allowed-over, exactly-over, plain-over}
use Rattle.graphql_stores_tests.proofs.stored.stored_text_of_service.Goals as goal

pub returns-clause-exactly : goal.returns-clause-exactly
returns-clause-exactly g c =
    exactly-over _ c.args.root_node c.root_node-root.result.now (c.root_node-root.ensures ∙ c.in_ok-service.ensures.0.root_node)
    c.in_ok-service.ensures.1 c.args.store.now _ c.args.request.now c.stored_text.result c.stored_text.ensures.exactly

pub returns-clause-plain : goal.returns-clause-plain
returns-clause-plain g c =
    plain-over _ c.args.root_node c.root_node-root.result.now (c.root_node-root.ensures ∙ c.in_ok-service.ensures.0.root_node)
    c.in_ok-service.ensures.1 c.args.store.now _ c.args.request.now (λ text. string_bytes text) c.stored_text.result
    c.stored_text.ensures.plain

pub returns-clause-allowed : goal.returns-clause-allowed
returns-clause-allowed g c =
    allowed-over _ c.args.root_node c.root_node-root.result.now (c.root_node-root.ensures ∙ c.in_ok-service.ensures.0.root_node)
    c.in_ok-service.ensures.1 c.args.store.now _ c.args.request.now (λ text. string_bytes text) c.stored_text.result
    c.stored_text.ensures.allowed
