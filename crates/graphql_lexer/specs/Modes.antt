-- What the code's turns in a string give, as the rules' modes.
use Rattle.std.specs.Prelude.{ℕ, List}
use Rattle.graphql_lexer.specs.declared.string_token.Mode.{Mode}
use Rattle.graphql_lexer.specs.declared.string_token.Mode.TheVariants.{Plain, Escape, Code}
use Rattle.graphql_text.specs.Reading.{place_of, IsTail}
use Rattle.graphql_text.specs.Strings as spec

abbrev pub mode_of : Mode → spec.Mode
mode_of Plain = spec.plain
mode_of Escape = spec.escape
mode_of (Code from n) = spec.code (place_of from) n

-- the escape that is read began before this rest
abbrev pub IsModeAt : spec.Mode → List ℕ → Type 0
IsModeAt (spec.code from n) rest = IsTail from.rest rest
IsModeAt spec.plain rest = Unit {0}
IsModeAt spec.escape rest = Unit {0}
