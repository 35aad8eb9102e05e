-- What is added to a text.
use Rattle.std.specs.Prelude.{◌≡◌, ◌++◌, List}
use Rattle.graphql_names.specs.Names.{Bytes}
use Rattle.graphql_text.specs.declared.token.Token.{Token}
use Rattle.graphql_plain_text.specs.PlainTexts.{spaced}

-- the new text is the old one and these tokens, each behind a space
abbrev pub AddsTokens : Bytes → Bytes → List Token → Type 0
AddsTokens old new tokens = new ≡ old ++ spaced tokens
