-- A lexical fault as the reason why a text can't be read; want of memory stays what it is.
use Rattle.std.specs.Prelude.{◌≡◌, ℕ, List}
use Rattle.graphql_text.specs.declared.position.Span.{Span}
use Rattle.graphql_text.specs.declared.spanning.Spanning.{Spanning}
use Rattle.graphql_text.specs.declared.token.LexerError.{LexerError}
use Rattle.graphql_text.specs.declared.token.LexerError.TheVariants as lexical
use Rattle.graphql_text.specs.declared.parse_error.ParseError as parse
use Rattle.graphql_text.specs.declared.parse_error.ParseError.TheVariants as parse_errors
use Rattle.graphql_text.specs.Reading.{Refusal}
use Rattle.graphql_text.specs.Grammar.{IsBroken}

abbrev pub parse_error_of : LexerError → parse.ParseError
parse_error_of lexical.Memory = parse_errors.Memory
parse_error_of fault = parse_errors.LexerError fault

-- an error at the place of the token that it is about
abbrev pub Fault : Type 0
Fault = Spanning parse.ParseError Span

-- an error that tells nothing of what is read
abbrev pub IsMemory : Fault → Type 0
IsMemory e = e.item ≡ parse_errors.Memory

-- the fault at which the division of a text into tokens ends
abbrev pub IsLexical : List ℕ → Fault → Type 0
IsLexical text e = (fault : Refusal)
    × IsBroken text fault
    × (e ≡ record { item = parse_error_of fault.item; span = fault.span })
