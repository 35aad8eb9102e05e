-- The first faulty token, for any grammar: a relation between tokens and trees.
use Rattle.std.specs.Prelude.{◌≡◌, ◌≤◌, List, [], ◌∷◌, ◌++◌, Result, Ok, Err}
use Rattle.graphql_text.specs.declared.position.Span.{Span}
use Rattle.graphql_text.specs.declared.parse_error.ParseError.{ParseError}
use Rattle.graphql_text.specs.declared.token.Token.TheVariants as t
use Rattle.graphql_text.specs.declared.token.ScalarToken.{ScalarToken}
use Rattle.graphql_grammar.specs.Input.{Input, Located, Fault, Outcome, left}
use Rattle.graphql_grammar.specs.Ahead.{refused_at, mk}
use Rattle.graphql_grammar.specs.Relations.{end_of}

-- a token whose meaning the scalar type decides
pub record IsScalarToken (a : Located) : Type 0 where
  pub token : ScalarToken
  pub is : a.item ≡ t.Scalar token

module _ {S : Type 0} (reads : ScalarToken → Result S ParseError) where
  -- a scalar's token that the type refuses, and its fault
  pub record BadScalar (a : Located) (e : Fault) : Type 0 where
    pub token : ScalarToken
    pub error : ParseError
    pub is : a.item ≡ t.Scalar token
    pub reads_not : reads token ≡ Err error
    pub fault : e ≡ record { item = error; span = a.span }

  -- one that it takes
  pub record GoodScalar (a : Located) : Type 0 where
    pub token : ScalarToken
    pub scalar : S
    pub is : a.item ≡ t.Scalar token
    pub reads_it : reads token ≡ Ok scalar

  -- a scalar's token, by what its type reads
  pub record ScalarOf (ts : List Located) (s : S) : Type 0 where
    pub at : Located
    pub token : ScalarToken
    pub alone : ts ≡ at ∷ []
    pub is : at.item ≡ t.Scalar token
    pub reads_it : reads token ≡ Ok s

  module _ {A : Type 0} (Tree : List Located → A → Type 0) where
    -- some tree begins with these tokens
    pub record Begins (ts : List Located) : Type 0 where
      pub more : List Located
      pub tree : A
      pub spells : Tree (ts ++ more) tree

    -- some tokens in front spell the tree
    pub record Spelled (i : Input) (x : A) (j : Input) : Type 0 where
      pub tokens : List Located
      pub front : i.ahead ≡ tokens ++ j.ahead
      pub spells : Tree tokens x
      pub after : j ≡ mk j.ahead i.finish (end_of i.end tokens)

    -- no more tokens in front spell a tree, and the same tokens no other
    pub record Longest (i : Input) (x : A) (j : Input) : Type 0 where
      pub most : (y : A) (k : Input) → Spelled i y k → left j ≤ left k
      pub same : (y : A) (k : Input) → Spelled i y k → left k ≡ left j → y ≡ x

    -- no other tree is spelled there
    pub record OnlyTree (i : Input) (x : A) : Type 0 where
      pub same : (y : A) (j : Input) → Spelled i y j → y ≡ x

-- what each token of a scalar means, or why it means none
abbrev pub Reading : Type 0 → Type 0
Reading S = ScalarToken → Result S ParseError

-- Which tokens spell which tree hangs on what scalars mean. A scalar can stand behind these tokens:
-- by some reading of scalars some tree begins with them and it.
pub record TakesScalar {S A : Type 0} (Tree : Reading S → List Located → A → Type 0)
    (ts : List Located) : Type 0 where
  pub reading : Reading S
  pub at : Located
  pub scalar : IsScalarToken at
  pub begins : Begins reading (Tree reading) (ts ++ at ∷ [])

module _ {S A : Type 0} (reads : Reading S) (Tree : Reading S → List Located → A → Type 0) where
  -- where no tree can have the next token, its fault
  pub data FaultOf (f : Span) (before rest : List Located) (e : Fault) : Type 0 where
    -- No scalar can stand there, or none stands there: the token's source text, or the end of the
    -- text.
    unexpected_token : e ≡ refused_at f rest → ((a : Located) (more : List Located)
        → rest ≡ a ∷ more → IsScalarToken a → TakesScalar Tree before → ⊥) → FaultOf f before rest e
    -- A scalar can stand there, and the type refuses this one: the type's own fault.
    refused_scalar : (a : Located) (more : List Located) → rest ≡ a ∷ more → BadScalar reads a e
        → TakesScalar Tree before → FaultOf f before rest e

  -- The fault of the first token that no tree could have there. With no such token the text ends
  -- too early.
  pub record FirstFaultyToken (i : Input) (e : Fault) : Type 0 where
    pub before : List Located
    pub rest : List Located
    pub front : i.ahead ≡ before ++ rest
    pub possible : Begins reads (Tree reads) before
    pub impossible : (a : Located) (more : List Located) → rest ≡ a ∷ more
        → Begins reads (Tree reads) (before ++ a ∷ []) → ⊥
    pub too_short : rest ≡ [] → (x : A) → Tree reads before x → ⊥
    pub fault : FaultOf i.finish before rest e

  -- what is read where a tree is looked for: the longest front that spells one, else the first
  -- faulty token
  abbrev pub Sought : Input → Outcome A → Type 0
  Sought i (Ok p) = Spelled reads (Tree reads) i p.0 p.1 × Longest reads (Tree reads) i p.0 p.1
  Sought i (Err e) = FirstFaultyToken i e

  -- the same where no other tree is spelled in front
  abbrev pub SoughtAlone : Input → Outcome A → Type 0
  SoughtAlone i (Ok p) = Spelled reads (Tree reads) i p.0 p.1 × OnlyTree reads (Tree reads) i p.0
  SoughtAlone i (Err e) = FirstFaultyToken i e
