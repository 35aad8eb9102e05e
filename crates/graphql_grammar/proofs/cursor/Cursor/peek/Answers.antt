use Rattle.std.proofs.Common.{◌∙◌, sym, ap, rules}
use Rattle.graphql_text.specs.declared.position.Span.{Span}
use Rattle.graphql_text.specs.declared.token.Token.TheVariants.{EndOfFile}
use Rattle.graphql_lexer.specs.Records.{Recorded}
use Rattle.graphql_grammar.specs.Input.{Input}
use Rattle.graphql_grammar.proofs.Cursors.{peek_some, peek_none}
use Rattle.graphql_grammar.proofs.cursor.Cursor.peek.Goals as goal

pub returns-in-Some : goal.returns-in-Some
returns-in-Some c = sym (peek_some c.args.self.now c.in-Some.next (sym c.token.ensures ∙ search rules))

pub returns-in-None : goal.returns-in-None
returns-in-None c =
    let finish = c.finish.ensures ∙ ap (λ (r : Recorded). r.finish) c.records.ensures ∙ ap (λ (i : Input). i.finish) c.self.view_is in
    c.new.ensures ∙ ap (λ (s : Span). record { item = EndOfFile; span = s }) finish ∙ sym (peek_none c.args.self.now (sym c.token.ensures ∙ search rules))
