use Rattle.std.proofs.Common.{◌≡◌, true, false, ◌∙◌, sym, ap}
use Rattle.graphql_grammar.specs.Kinds.{only, same_kind}
use Rattle.graphql_grammar.specs.Steps.{sees}
use Rattle.graphql_grammar.proofs.Cursors.{after_yes, after_no}
use Rattle.graphql_grammar.proofs.cursor.Cursor.eat.Goals as goal

pub returns-then-eq-clause-result : goal.returns-then-eq-clause-result
unfolding sees
returns-then-eq-clause-result c = c.if-eq.ensures ∙ ap (λ v. same_kind v c.args.wanted) c.kind.ensures

pub returns-else-eq-clause-result : goal.returns-else-eq-clause-result
unfolding sees
returns-else-eq-clause-result c = c.if-eq.ensures ∙ ap (λ v. same_kind v c.args.wanted) c.kind.ensures

pub returns-then-eq-clause-after : goal.returns-then-eq-clause-after
unfolding sees
returns-then-eq-clause-after c =
    let seen : sees (only c.args.wanted) c.args.self.now ≡ true = sym (c.if-eq.ensures ∙ ap (λ v. same_kind v c.args.wanted) c.kind.ensures) in
    c.advance.ensures.next ∙ sym (after_yes (only c.args.wanted) c.args.self.now seen)

pub returns-else-eq-clause-after : goal.returns-else-eq-clause-after
unfolding sees
returns-else-eq-clause-after c =
    let seen : sees (only c.args.wanted) c.args.self.now ≡ false = sym (c.if-eq.ensures ∙ ap (λ v. same_kind v c.args.wanted) c.kind.ensures) in
    sym (after_no (only c.args.wanted) c.args.self.now seen)
