-- The source texts of the tokens within a part of a text (GraphQL October 2021, 2.1.6 Lexical
-- Tokens).
use Rattle.std.specs.Prelude.{◌≡◌, ℕ, List}
use Rattle.graphql_text.specs.declared.position.Span.{Span}
use Rattle.graphql_lexer.specs.declared.token_text.TokenText.{TokenText}
use Rattle.graphql_lexer.specs.Within.{texts_within}
use Rattle.graphql_grammar.specs.Input.{Located}
use Rattle.graphql_language.specs.Texts.{IsCut}

-- of the tokens of the text these are the ones within the part, with their source texts
pub record AreTextsWithin (text : List ℕ) (span : Span) (texts : List TokenText) : Type 0 where
  pub tokens : List Located
  pub finish : Span
  pub cut : IsCut text tokens finish
  pub are : texts ≡ texts_within tokens span
