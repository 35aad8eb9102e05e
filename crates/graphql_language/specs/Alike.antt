-- Texts whose tokens have the same kinds and texts: both are documents or both are refused, and
-- only places differ (GraphQL October 2021, 2.1.7 Ignored Tokens).
use Rattle.std.specs.Prelude.{◌≡◌, ℕ, Bool, List, Result}
use Rattle.graphql_text.specs.declared.token.ScalarToken.{ScalarToken}
use Rattle.graphql_text.specs.declared.parse_error.ParseError.{ParseError}
use Rattle.graphql_text.specs.Grammar.{IsDivided}
use Rattle.graphql_grammar.specs.Input.{Located, Fault}
use Rattle.graphql_grammar.specs.Alike.{SameTokens, Corresponding}
use Rattle.graphql_tree.specs.declared.document.Definition.{Definition}
use Rattle.graphql_tree.specs.Unlocated.{unlocated_document}
use Rattle.graphql_language.specs.Texts.{IsDocument, IsRefused}

-- two texts whose tokens have the same kinds and texts, one by one; what stands between them may
-- differ
pub record AreAlike (text other : List ℕ) : Type 0 where
  pub tokens : List Located
  pub others : List Located
  pub divided : IsDivided text tokens
  pub divided_other : IsDivided other others
  pub same : SameTokens tokens others

module _ (S : Type 0) (reads : ScalarToken → Result S ParseError) (of_bool : Bool → S) where
  -- where one is a document, the other is one too, and the two differ in places alone
  abbrev pub DifferInPlaces : Type 0
  DifferInPlaces = (text other : List ℕ) → AreAlike text other → (tree : List (Definition S))
      → IsDocument S reads of_bool text tree
      → (again : List (Definition S))
      × IsDocument S reads of_bool other again
      × (unlocated_document again ≡ unlocated_document tree)

  -- where one is refused, the other is refused too, with the same fault at the token of the same
  -- index
  abbrev pub RefusedAlike : Type 0
  RefusedAlike = (text other : List ℕ) (alike : AreAlike text other) (fault : Fault)
      → IsRefused S reads of_bool text fault
      → (again : Fault)
      × IsRefused S reads of_bool other again
      × (again.item ≡ fault.item)
      × Corresponding alike.tokens alike.others fault.span again.span
