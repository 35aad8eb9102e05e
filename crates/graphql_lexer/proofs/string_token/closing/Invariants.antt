use Rattle.std.proofs.Common.{◌≡◌, length}
use Rattle.std.specs.Str.{chars}
use Rattle.graphql_text.specs.Strings.{string_from, plain}
use Rattle.graphql_lexer.specs.Modes.{mode_of, IsModeAt}
use Rattle.graphql_lexer.proofs.string_token.closing.Given as goal

abbrev pub invariant-chars : goal.invariant-chars
invariant-chars l = (string_from (mode_of l.mode) l.here.at (chars l.here.rest.now) ≡ string_from plain l.start.at (chars l.start.rest.now)) × IsModeAt (mode_of l.mode) (chars l.here.rest.now)

abbrev pub decreases-chars : goal.decreases-chars
decreases-chars l = length l.here.rest.now
