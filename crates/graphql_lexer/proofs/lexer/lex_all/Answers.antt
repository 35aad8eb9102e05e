use Rattle.std.proofs.Common.{◌≡◌, [], ◌∷◌, ◌++◌, false, sym, subst, ◌∙◌, rules, List}
use Rattle.std.specs.Str.{chars}
use Rattle.graphql_text.specs.Reading.{start_of, place_of}
use Rattle.graphql_text.specs.Tokens.{Located, Runs, is_end}
use Rattle.graphql_lexer.proofs.Falls.{cut_shorter, runs_more}
use Rattle.graphql_lexer.proofs.lexer.lex_all.Goals as goal

pub tokens-smaller : goal.tokens-smaller
tokens-smaller c =
    let more : is_end c.in_ok-token.token.item ≡ false = sym c.is_end-is_last.ensures ∙ c.if-is_last.false in
    cut_shorter (place_of c.tokens.cursor) (place_of c.in_ok-token.next) c.in_ok-token.token c.in_ok-token.ensures more

pub tokens-preserved : goal.tokens-preserved
tokens-preserved c =
    let more : is_end c.in_ok-token.token.item ≡ false = sym c.is_end-is_last.ensures ∙ c.if-is_last.false in
    let out = c.tokens.out.items in
    let t = c.in_ok-token.token in
    let pushed : c.push.new.self.items ≡ out ++ t ∷ [] = search rules in
    let P : List Located → Type 0 = λ ts. Runs (start_of (chars c.args.source.now)) ts (place_of c.in_ok-token.next) in
    subst P (sym pushed) (runs_more (start_of (chars c.args.source.now)) (place_of c.tokens.cursor) (place_of c.in_ok-token.next) out t c.tokens.invariant c.in_ok-token.ensures more)
