-- What a production is made of, as a relation between tokens and trees.
use Rattle.std.specs.Prelude.{◌≡◌, true, List, [], ◌∷◌, ◌++◌, Option, Some, None, ◌⊎◌}
use Rattle.graphql_text.specs.declared.position.Span.{Span}
use Rattle.graphql_text.specs.declared.position.SourcePosition.{SourcePosition}
use Rattle.graphql_text.specs.declared.token.Token.{Token}
use Rattle.graphql_grammar.specs.declared.kind.Kind.{Kind}
use Rattle.graphql_grammar.specs.Kinds.{Kinds, kind, only}
use Rattle.graphql_grammar.specs.Input.{At, Located}

-- which tokens spell what
abbrev pub Rel : Type 0 → Type 1
Rel A = List Located → A → Type 0

-- where the last of these tokens ends
abbrev pub end_of : SourcePosition → List Located → SourcePosition
end_of e [] = e
end_of e (a ∷ ts) = end_of a.span.end ts

-- the place of some tokens, of which there is one at least
abbrev pub span_of : Located → List Located → Span
span_of a rest = record { start = a.span.start; end = end_of a.span.end rest }

-- one token of these kinds, by what it means
pub record TokenOf {A : Type 0} (kinds : Kinds) (meaning : Token → A) (ts : List Located)
    (x : A) : Type 0 where
  pub at : Located
  pub alone : ts ≡ at ∷ []
  pub of_kind : kinds (kind at.item) ≡ true
  pub means : x ≡ meaning at.item

-- one token of this kind
abbrev pub One : Kind → List Located → Type 0
One w ts = TokenOf {A = Unit {0}} (only w) (λ x. tt {0}) ts (tt {0})

-- no token
pub record Nothing {A : Type 0} (wanted : A) (ts : List Located) (x : A) : Type 0 where
  pub empty : ts ≡ []
  pub is : x ≡ wanted

-- one part, then another, which may depend on what the first spells
pub record Then {A B : Type 0} (P : Rel A) (Q : A → Rel B) (ts : List Located)
    (y : B) : Type 0 where
  pub front : List Located
  pub back : List Located
  pub is : ts ≡ front ++ back
  pub part : A
  pub begins : P front part
  pub ends : Q part back y

-- a tree made of what is spelled
pub record Made {A B : Type 0} (make : A → B) (P : Rel A) (ts : List Located) (y : B) : Type 0 where
  pub part : A
  pub spells : P ts part
  pub is : y ≡ make part

-- it stands where its tokens stand
pub record Placed {A : Type 0} (P : Rel A) (ts : List Located) (y : At A) : Type 0 where
  pub head : Located
  pub tail : List Located
  pub is : ts ≡ head ∷ tail
  pub spells : P ts y.item
  pub stands : y.span ≡ span_of head tail

-- it is spelled, or it is absent
pub data OptionOf {A : Type 0} (P : Rel A) : List Located → Option A → Type 0 where
  absent : OptionOf P [] None
  present : (ts : List Located) (x : A) → P ts x → OptionOf P ts (Some x)

-- any number of items behind those that were found
pub data AllFrom {A : Type 0} (P : Rel A) (found : List A) : List Located → List A → Type 0 where
  none_more : AllFrom P found [] found
  one_more : (ts us : List Located) (xs : List A) (x : A) → AllFrom P found ts xs → P us x
      → AllFrom P found (ts ++ us) (xs ++ x ∷ [])

-- any number of items
abbrev pub AllOf : {A : Type 0} → Rel A → Rel (List A)
AllOf P = AllFrom P []

-- one item at least
abbrev pub SomeOf : {A : Type 0} → Rel A → Rel (List A)
SomeOf P = Then P (λ x. AllFrom P (x ∷ []))

-- and then the token that closes
pub record ThenCloses {A : Type 0} (P : Rel A) (close : Kind) (ts : List Located)
    (x : A) : Type 0 where
  pub inside : List Located
  pub last : Located
  pub is : ts ≡ inside ++ last ∷ []
  pub closes : only close (kind last.item) ≡ true
  pub spells : P inside x

-- between two tokens
pub record Between {A : Type 0} (P : Rel A) (w close : Kind) (ts : List Located)
    (x : A) : Type 0 where
  pub first : Located
  pub inside : List Located
  pub last : Located
  pub is : ts ≡ first ∷ (inside ++ last ∷ [])
  pub opens : only w (kind first.item) ≡ true
  pub closes : only close (kind last.item) ≡ true
  pub spells : P inside x

-- one or the other
abbrev pub EitherOf : {A : Type 0} → Rel A → Rel A → Rel A
EitherOf P Q = λ ts x. (P ts x) ⊎ (Q ts x)
