use Rattle.std.proofs.Common.{◌≡◌, ◌<◌, Ok, Err, true, false, ◌∙◌, sym, ap, subst}
use Rattle.graphql_grammar.specs.Kinds.{only}
use Rattle.graphql_grammar.specs.Input.{Input, left, refusal}
use Rattle.graphql_grammar.specs.Steps.{sees}
use Rattle.graphql_grammar.proofs.Cursors.{after_yes, after_no, token_yes, token_no, fewer_kind, refused_stands}
use Rattle.graphql_grammar.proofs.cursor.Cursor.expect.Goals as goal

pub returns-then-eat-clause-reads : goal.returns-then-eat-clause-reads
returns-then-eat-clause-reads c =
    let i = c.args.self.now in
    let seen : sees (only c.args.wanted) i ≡ true = sym c.eat.ensures.result ∙ c.if-eat.true in
    token_yes (only c.args.wanted) (λ x. tt {0}) i seen ∙ ap (λ (j : Input). Ok (tt {0}, j)) (sym (c.eat.ensures.after ∙ after_yes (only c.args.wanted) i seen))

pub returns-then-eat-clause-fewer : goal.returns-then-eat-clause-fewer
returns-then-eat-clause-fewer c = λ h.
    let i = c.args.self.now in
    let seen : sees (only c.args.wanted) i ≡ true = sym c.eat.ensures.result ∙ c.if-eat.true in
    let P : Input → Type 0 = λ j. left j < left i in
    subst P (sym (c.eat.ensures.after ∙ after_yes (only c.args.wanted) i seen)) (fewer_kind i c.args.wanted seen h)

pub returns-else-eat-clause-reads : goal.returns-else-eat-clause-reads
returns-else-eat-clause-reads c = λ told.
    let i = c.args.self.now in
    let seen : sees (only c.args.wanted) i ≡ false = sym c.eat.ensures.result ∙ c.if-eat.false in
    let stays = c.eat.ensures.after ∙ after_no (only c.args.wanted) i seen in
    token_no (only c.args.wanted) (λ x. tt {0}) i seen ∙ ap (λ (j : Input). Err (refusal j)) (sym stays) ∙ ap Err (c.refuse.ensures told)

pub returns-else-eat-clause-stays : goal.returns-else-eat-clause-stays
returns-else-eat-clause-stays c =
    let i = c.args.self.now in
    let seen : sees (only c.args.wanted) i ≡ false = sym c.eat.ensures.result ∙ c.if-eat.false in
    c.eat.ensures.after ∙ after_no (only c.args.wanted) i seen

pub returns-else-eat-clause-stands : goal.returns-else-eat-clause-stands
returns-else-eat-clause-stands c = refused_stands c.eat.new.self c.refuse.result c.refuse.ensures
