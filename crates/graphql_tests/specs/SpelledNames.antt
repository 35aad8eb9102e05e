-- What spells a name.
use Rattle.std.specs.Prelude.{◌≡◌, ℕ, List, [], ◌∷◌}
use Rattle.graphql_text.specs.declared.token.Token.TheVariants.{Name}
use Rattle.graphql_grammar.specs.Input.{At, Located}

-- one token, at its place
pub record NameAt (tokens : List Located) (name : At (List ℕ)) : Type 0 where
  pub token : Located
  pub is : tokens ≡ token ∷ []
  pub named : token.item ≡ Name name.item
  pub stands : name.span ≡ token.span
