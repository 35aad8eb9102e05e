use Rattle.std.proofs.Common.{◌≡◌, false, rules, Ok}
use Rattle.graphql_text.specs.Reading.{place_of}
use Rattle.graphql_text.specs.Tokens.{cut}
use Rattle.graphql_lexer.specs.OneByOne.{Remains}
use Rattle.graphql_lexer.proofs.Falls.{fewer_left}
use Rattle.graphql_lexer.proofs.lexer.LexerIterator.next.Goals as goal

pub returns-in-Ok-clause-goes : goal.returns-in-Ok-clause-goes
returns-in-Ok-clause-goes c =
    let s : Remains = c.args.self.now in
    let t : Remains = record { place = place_of c.in-Ok.next; is_done = c.is_end-self-inside.result } in
    let goes : s.is_done ≡ false = search rules in
    let cuts : cut s.place ≡ Ok (c.in-Ok.token, t.place) = search rules in
    let fewer = fewer_left s t c.in-Ok.token goes cuts c.is_end-self-inside.ensures in
    record { on = λ f. (tt, tt, fewer); keeps = tt; rests = λ f. tt }
