use Rattle.std.proofs.Common.{◌∙◌, rules}
use Rattle.std.specs.Str.{chars}
use Rattle.graphql_lexer.specs.Modes.{mode_of}
use Rattle.graphql_lexer.proofs.StringTurns.{goes_on, mode_goes_on}
use Rattle.graphql_lexer.proofs.string_token.closing.Goals as goal

pub chars-preserved : goal.chars-preserved
chars-preserved c =
    let m = mode_of c.chars.mode in
    let k = mode_of c.in-Some-2.behind in
    let cs = chars c.in-Some.next.rest.now in
    let rest = chars c.chars.here.rest.now in
    (goes_on m k c.chars.here.at c.in-Some.next.at c.in-Some.c cs rest (search rules) (search rules) (search rules) ∙ c.chars.invariant.0, mode_goes_on m k c.chars.here.at c.in-Some.c cs rest (search rules) (search rules) c.chars.invariant.1)
