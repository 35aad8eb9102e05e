-- Strings of pieces, one of them with an escape that is none, and why a value is no integer.
use Rattle.std.specs.Prelude.{ℕ, List, [], ◌∷◌, codes}
use Rattle.graphql_scalars.specs.declared.check_error.CheckError.{CheckError}
use Rattle.graphql_scalars.specs.declared.check_error.CheckError.TheVariants.{Message}
use Rattle.graphql_text.specs.declared.parse_error.ParseError.{ParseError}
use Rattle.graphql_text.specs.declared.parse_error.ParseError.TheVariants.{LexerError}
use Rattle.graphql_text.specs.declared.token.LexerError.TheVariants.{UnknownEscapeSequence}

-- `a\n\u00e9`: a letter, a line feed and an e with an acute
abbrev pub written : List ℕ
written = 97 ∷ 92 ∷ 110 ∷ 92 ∷ 117 ∷ 48 ∷ 48 ∷ 101 ∷ 57 ∷ []

abbrev pub meant : List ℕ
meant = 97 ∷ 10 ∷ 233 ∷ []

-- `\n\q`
abbrev pub bad : List ℕ
bad = 92 ∷ 110 ∷ 92 ∷ 113 ∷ []

-- `\q` is no escape
abbrev pub unknown_escape : ParseError
unknown_escape = LexerError (UnknownEscapeSequence (92 ∷ 113 ∷ []))

abbrev pub no_integer : CheckError
no_integer = Message (codes "no integer")
