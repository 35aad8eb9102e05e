-- What scalars and tokens are as identifiers (GraphQL October 2021, 3.5.5 ID, "Input Coercion").
use Rattle.std.specs.Prelude.{ℕ, ℤ, Option, List, Result, Ok, Err}
use Rattle.std.specs.Option.{option_map, option_or}
use Rattle.std.specs.Fmt.{signed_decimal}
use Rattle.graphql_text.specs.declared.token.ScalarToken.{ScalarToken}
use Rattle.graphql_text.specs.declared.parse_error.ParseError.{ParseError}
use Rattle.graphql_scalars.specs.Literals.{reads_text, reads_int}
use Rattle.graphql_scalars.specs.ScalarAnswers.{ScalarAnswer, as_int, as_text}

-- the text, or the decimal text of the integer
abbrev pub as_id : ScalarAnswer → Option (List ℕ)
as_id answer = option_or (as_text answer) (option_map signed_decimal (as_int answer))

-- the one, or the other where the one is an error
abbrev pub or_else : {A E : Type 0} → Result A E → Result A E → Result A E
or_else (Ok x) other = Ok x
or_else (Err e) other = other

-- a string, or else an integer of 32 bits
abbrev pub reads_id : {S : Type 0} → (List ℕ → S) → (ℤ → S) → ScalarToken → Result S ParseError
reads_id of_text of_int t = or_else (reads_text of_text t) (reads_int of_int t)
