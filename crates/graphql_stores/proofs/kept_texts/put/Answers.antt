use Rattle.std.proofs.Common.{List, ℕ, subst, string_bytes}
use Rattle.graphql_stores.specs.Texts.{AddsAtMost}
use Rattle.graphql_stores.proofs.Adding.{added-at-most}
use Rattle.graphql_stores.proofs.kept_texts.put.Goals as goal

pub returns-in-Ok : goal.returns-in-Ok
returns-in-Ok c =
    subst (λ (key : List ℕ). AddsAtMost c.args.texts.now c.insert.new.self key c.args.text.now) c.in_ok-key.ensures.ok
    (subst (λ (text : List ℕ). AddsAtMost c.args.texts.now c.insert.new.self (string_bytes c.in_ok-key.key) text)
    c.in_ok-text.ensures.items
    (added-at-most c.in_ok-key.key c.in_ok-text.text c.args.texts.now c.insert.new.self c.in-Ok.ensures.updates))
