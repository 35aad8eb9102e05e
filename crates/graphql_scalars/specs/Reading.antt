-- What reading a scalar answers.
use Rattle.std.specs.Prelude.{◌≡◌}
use Rattle.graphql_text.specs.declared.parse_error.ParseError.{ParseError}
use Rattle.graphql_text.specs.declared.parse_error.ParseError.TheVariants.{Memory}

-- the refusal is want of memory, and tells nothing of the token
abbrev pub IsMemory : ParseError → Type 0
IsMemory e = e ≡ Memory
