-- Lists between two tokens, by what spells their items.
use Rattle.std.specs.Prelude.{◌≡◌, List, [], ◌∷◌, ◌++◌, Ok}
use Rattle.std.specs.Borrow.{MutBor}
use Rattle.graphql_text.specs.declared.token.Token.{Token}
use Rattle.graphql_grammar.specs.Input.{At, Input, Located}
use Rattle.graphql_grammar.specs.Relations.{Rel, Placed, AllOf, SomeOf}
use Rattle.graphql_grammar.specs.Faults.{Spelled}
use Rattle.graphql_value_syntax.specs.Types.{no_scalar}
use Rattle.graphql_language.specs.Parser.{State}
use Rattle.graphql_language.specs.Lists.{Function, Item, AnyItems, SomeItems, Delimited}

-- some tokens in front spell the tree, and what is left stands behind them
abbrev pub InFront : {A : Type 0} → Rel A → Input → A → Input → Type 0
InFront P = Spelled no_scalar P

-- what some tokens spell, between these two tokens
pub record Enclosed {A : Type 0} (opening closing : Token) (P : Rel A) (ts : List Located)
    (x : A) : Type 0 where
  pub first : Located
  pub inside : List Located
  pub last : Located
  pub is : ts ≡ first ∷ (inside ++ last ∷ [])
  pub opens : first.item ≡ opening
  pub closes : last.item ≡ closing
  pub spells : P inside x

-- any number of items between two tokens, at the place from the first token to the last
abbrev pub ListOf : {A : Type 0} → Token → Token → Rel A → Rel (At (List A))
ListOf opening closing P = Placed (Enclosed opening closing (AllOf P))

-- one item at least
abbrev pub SomeListOf : {A : Type 0} → Token → Token → Rel A → Rel (At (List A))
SomeListOf opening closing P = Placed (Enclosed opening closing (SomeOf P))

-- whatever the function reads some tokens in front spell
abbrev pub ReadsSpelled : {F A : Type 0} → Function F A → F → Rel A → Type 0
ReadsSpelled {F} {A} function f P = (p q : MutBor State) (x : A)
    → function.post f (p, tt) (Ok x, (q, tt)) → InFront P p.now.input x q.now.input

-- ---- laws

-- of what such a function reads, a list of any number of items is spelled
abbrev pub ListsAreSpelled : {F A : Type 0} → Function F A → Rel A → Type 0
ListsAreSpelled {F} {A} function P =
    (opening closing : Token) (f : F) → ReadsSpelled function f P → (s t : State) (xs : At (List A))
    → Delimited opening (AnyItems closing (Item function f)) s (Ok xs) t
    → InFront (ListOf opening closing P) s.input xs t.input

-- and one of one item at least
abbrev pub SomeListsAreSpelled : {F A : Type 0} → Function F A → Rel A → Type 0
SomeListsAreSpelled {F} {A} function P =
    (opening closing : Token) (f : F) → ReadsSpelled function f P → (s t : State) (xs : At (List A))
    → Delimited opening (SomeItems closing (Item function f)) s (Ok xs) t
    → InFront (SomeListOf opening closing P) s.input xs t.input
