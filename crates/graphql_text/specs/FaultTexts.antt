-- The texts of faults, as a user is shown them.
use Rattle.std.specs.Prelude.{ℕ, List, ◌++◌, codes, encode_utf8}
use Rattle.graphql_text.specs.declared.token.LexerError.{LexerError}
use Rattle.graphql_text.specs.declared.token.LexerError.TheVariants as lexical
use Rattle.graphql_text.specs.declared.parse_error.ParseError.{ParseError}
use Rattle.graphql_text.specs.declared.parse_error.ParseError.TheVariants as parse

-- the text of a lexical fault
abbrev pub lexical_text : LexerError → List ℕ
lexical_text (lexical.UnknownCharacter c) =
    codes "Unknown character \"" ++ encode_utf8 c ++ codes "\""
lexical_text (lexical.UnexpectedCharacter c) =
    codes "Unexpected character \"" ++ encode_utf8 c ++ codes "\""
lexical_text lexical.UnterminatedString = codes "Unterminated string literal"
lexical_text (lexical.UnknownCharacterInString c) =
    codes "Unknown character \"" ++ encode_utf8 c ++ codes "\" in string literal"
lexical_text (lexical.UnknownEscapeSequence escape) =
    codes "Unknown escape sequence \"" ++ escape ++ codes "\" in string"
lexical_text lexical.UnexpectedEndOfFile = codes "Unexpected end of input"
lexical_text lexical.InvalidNumber = codes "Invalid number literal"
lexical_text lexical.Memory = codes "Out of memory"

-- the text of a fault: a token's source and a lexical fault's text are in it, and a scalar type's
-- words are it
abbrev pub fault_text : ParseError → List ℕ
fault_text (parse.UnexpectedToken token) = codes "Unexpected \"" ++ token ++ codes "\""
fault_text parse.UnexpectedEndOfFile = codes "Unexpected end of input"
fault_text (parse.LexerError fault) = lexical_text fault
fault_text (parse.ExpectedScalarError refusal) = refusal
fault_text parse.Memory = codes "Out of memory"
