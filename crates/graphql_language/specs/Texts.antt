-- What a text is: a document, or refused with its first fault (GraphQL October 2021, 2 Language).
use Rattle.std.specs.Prelude.{◌≡◌, ◌⊎◌, ℕ, Bool, List, [], ◌∷◌, ◌++◌, Result}
use Rattle.graphql_text.specs.declared.position.Span.{Span}
use Rattle.graphql_text.specs.declared.token.Token.TheVariants.{EndOfFile}
use Rattle.graphql_text.specs.declared.token.ScalarToken.{ScalarToken}
use Rattle.graphql_text.specs.declared.parse_error.ParseError.{ParseError}
use Rattle.graphql_text.specs.Position.{origin}
use Rattle.graphql_text.specs.Grammar.{IsDivided}
use Rattle.graphql_grammar.specs.Input.{Located, Fault}
use Rattle.graphql_grammar.specs.Ahead.{mk}
use Rattle.graphql_grammar.specs.Relations.{Rel}
use Rattle.graphql_grammar.specs.Faults.{Reading, FirstFaultyToken}
use Rattle.graphql_grammar.specs.Cursor.{IsLexical}
use Rattle.graphql_tree.specs.declared.document.Definition.{Definition}
use Rattle.graphql_language.specs.Documents.{DocumentOf}

-- the tokens of a text: these, and then its end
abbrev pub IsCut : List ℕ → List Located → Span → Type 0
IsCut text tokens finish =
    IsDivided text (tokens ++ record { item = EndOfFile; span = finish } ∷ [])

module _ (S : Type 0) (reads : ScalarToken → Result S ParseError) (of_bool : Bool → S) where
  -- the tokens of the text spell the document
  pub record IsDocument (text : List ℕ) (tree : List (Definition S)) : Type 0 where
    pub tokens : List Located
    pub finish : Span
    pub cut : IsCut text tokens finish
    pub spells : DocumentOf S reads of_bool tokens tree

  -- and no other
  abbrev pub OnlyDocument : List ℕ → List (Definition S) → Type 0
  OnlyDocument text tree = (other : List (Definition S)) → IsDocument text other → other ≡ tree

  -- which tokens spell which document, by what scalars mean
  abbrev pub Documents : Reading S → Rel (List (Definition S))
  Documents reading = DocumentOf S reading of_bool

  -- the fault of the first token that no document could have there
  pub record IsUngrammatical (text : List ℕ) (fault : Fault) : Type 0 where
    pub tokens : List Located
    pub finish : Span
    pub cut : IsCut text tokens finish
    pub first : FirstFaultyToken reads Documents (mk tokens finish origin) fault

  -- a lexical fault comes before every other
  abbrev pub IsRefused : List ℕ → Fault → Type 0
  IsRefused text fault = (IsLexical text fault) ⊎ (IsUngrammatical text fault)

  -- ---- laws

  abbrev pub OneDocument : Type 0
  OneDocument = (text : List ℕ) (tree other : List (Definition S)) → IsDocument text tree
      → IsDocument text other → tree ≡ other

  abbrev pub DocumentOrRefused : Type 0
  DocumentOrRefused = (text : List ℕ)
      → ((tree : List (Definition S)) × IsDocument text tree)
      ⊎ ((fault : Fault) × IsRefused text fault)

  abbrev pub NotBoth : Type 0
  NotBoth = (text : List ℕ) (tree : List (Definition S)) (fault : Fault) → IsDocument text tree
      → IsRefused text fault → ⊥

  abbrev pub OneFault : Type 0
  OneFault = (text : List ℕ) (fault other : Fault) → IsRefused text fault → IsRefused text other
      → fault ≡ other
