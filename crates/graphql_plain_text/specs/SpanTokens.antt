-- The tokens of a text within a part of it, their places aside.
use Rattle.std.specs.Prelude.{List}
use Rattle.graphql_text.specs.declared.position.Span.{Span}
use Rattle.graphql_text.specs.declared.token.Token.{Token}
use Rattle.graphql_lexer.specs.Within.{within}
use Rattle.graphql_grammar.specs.Alike.{tokens_of}
use Rattle.graphql_grammar.specs.Input.{Located}

-- `tokens`: those of the text
abbrev pub tokens_within : List Located → Span → List Token
tokens_within tokens span = tokens_of (within tokens span)
