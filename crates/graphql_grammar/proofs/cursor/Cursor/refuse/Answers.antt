use Rattle.std.proofs.Common.{◌∙◌, sym, ap}
use Rattle.graphql_text.specs.declared.parse_error.ParseError.{ParseError}
use Rattle.graphql_grammar.proofs.Cursors.{refused_end, refused_token}
use Rattle.graphql_grammar.proofs.cursor.Cursor.refuse.Goals as goal

pub returns-in-EndOfFile : goal.returns-in-EndOfFile
returns-in-EndOfFile c = λ told. refused_end c.args.self.now c.peek-next.result c.peek-next.ensures c.in-EndOfFile.is ∙ sym c.new.ensures

pub returns-in-Ok : goal.returns-in-Ok
returns-in-Ok c = λ told.
    let p = c.peek-next.result in
    let made = ap (λ (e : ParseError). record { item = e; span = p.span }) c.in-Ok.ensures in
    refused_token c.args.self.now p c.peek-next.ensures c.in_default.not-EndOfFile ∙ sym made ∙ sym c.new-in-Ok.ensures
