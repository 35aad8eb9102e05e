-- Tokens that some characters spell (GraphQL October 2021, 2.1.6 Lexical Tokens).
use Rattle.std.specs.Prelude.{◌≡◌, ℕ, true, false, List, [], ◌∷◌}
use Rattle.std.specs.Str.{all_scalars}
use Rattle.graphql_text.specs.declared.token.Token.{Token}
use Rattle.graphql_text.specs.Grammar.{Spells}
use Rattle.graphql_text.specs.Tokens.{is_end}

pub record IsSpelt (token : Token) : Type 0 where
  -- the codes of the characters
  pub own : List ℕ
  pub are : all_scalars own ≡ true
  pub spells : Spells token own
  -- it is not the end of a text
  pub goes_on : is_end token ≡ false

-- each of these tokens is spelt
abbrev pub AreSpelt : List Token → Type 0
AreSpelt [] = Unit {0}
AreSpelt (x ∷ xs) = IsSpelt x × AreSpelt xs
