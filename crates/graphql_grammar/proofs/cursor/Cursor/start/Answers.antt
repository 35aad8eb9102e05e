use Rattle.std.proofs.Common.{◌∙◌, sym, ap, rules}
use Rattle.graphql_text.specs.declared.position.Span.{Span}
use Rattle.graphql_lexer.specs.Records.{Recorded}
use Rattle.graphql_grammar.specs.Kept.{recorded}
use Rattle.graphql_grammar.specs.Input.{Input, Located}
use Rattle.graphql_grammar.proofs.Cursors.{next_is, start_got, peek_none, none_ahead}
use Rattle.graphql_grammar.proofs.cursor.Cursor.start.Goals as goal

pub returns-in-Some : goal.returns-in-Some
returns-in-Some c =
    let i = c.self.inside in
    let start = next_is (λ (t : Located). t.span.start) c.args.self.now c.records.result.now (recorded i.kept) i.read i.end c.start.result c.self.view_is c.records.ensures c.start.ensures in
    sym (start_got c.args.self.now c.in-Some.start (start ∙ search rules))

pub returns-in-None : goal.returns-in-None
returns-in-None c =
    let i = c.self.inside in
    let start = next_is (λ (t : Located). t.span.start) c.args.self.now c.records.result.now (recorded i.kept) i.read i.end c.start.result c.self.view_is c.records.ensures c.start.ensures in
    let none = none_ahead (λ (t : Located). t.span.start) _ (start ∙ search rules) in
    let finish = c.finish.ensures ∙ ap (λ (r : Recorded). r.finish) c.records-in-None.ensures ∙ ap (λ (j : Input). j.finish) c.self.view_is in
    ap (λ (s : Span). s.start) finish ∙ sym (ap (λ (p : Located). p.span.start) (peek_none c.args.self.now none))
