-- Names in the words of the lexical grammar.
use Rattle.std.specs.Prelude.{◌≡◌, ◌↔◌, ℕ, List, [], ◌∷◌, encode_utf8_all}
use Rattle.graphql_text.specs.declared.token.Token.TheVariants as t
use Rattle.graphql_text.specs.Tokens.{Located}
use Rattle.graphql_text.specs.Grammar.{IsName, IsDivided}

-- a text is a name exactly where its tokens are that name and the end
abbrev pub NamesAreTokens : Type 0
NamesAreTokens =
    (text : List ℕ) → IsName text ↔ ((name end : Located)
    × IsDivided text (name ∷ end ∷ [])
    × (name.item ≡ t.Name (encode_utf8_all text)))
