use Rattle.std.proofs.Common.{◌≡◌, ◌≤◌, length, drop, ◌+◌, ◌∙◌, sym, ap, arith}
use Rattle.graphql_text.specs.declared.position.SourcePosition.{SourcePosition}
use Rattle.graphql_lexer.specs.Records.{Recorded}
use Rattle.graphql_grammar.specs.Kept.{recorded}
use Rattle.graphql_grammar.specs.Input.{Input, end_after, next}
use Rattle.graphql_grammar.proofs.Cursors.{moved, next_past}
use Rattle.graphql_grammar.proofs.cursor.Cursor.advance.Goals as goal

pub returns-then-self-len-clause-next : goal.returns-then-self-len-clause-next
returns-then-self-len-clause-next c =
    let i = c.self.inside in
    let r = recorded i.kept in
    let end : c.end_of_next-self-inside.result ≡ end_after i.end (drop i.read r.tokens) =
    c.end_of_next-self-inside.ensures ∙ ap (λ (j : Input). end_after j.end j.ahead) (sym c.self.view_is) in
    ap (λ (e : SourcePosition). record { ahead = drop (i.read + 1) r.tokens; finish = r.finish; end = e }) end ∙ moved r.tokens i.read r.finish i.end ∙ ap next c.self.view_is

pub returns-else-self-len-clause-next : goal.returns-else-self-len-clause-next
returns-else-self-len-clause-next c =
    let i = c.self.inside in
    let r = recorded i.kept in
    let all : length r.tokens ≡ c.len.result = sym (c.len.ensures ∙ ap (λ (s : Recorded). length s.tokens) c.records.ensures) in
    let past : length r.tokens ≤ i.read = omega (arith, all) in
    sym c.self.view_is ∙ next_past r.tokens i.read r.finish i.end past ∙ ap next c.self.view_is
