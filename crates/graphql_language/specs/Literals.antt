-- What is read where a value or a type reference stands next (GraphQL October 2021, 2.9 Input
-- Values, 2.11 Type References).
use Rattle.std.specs.Prelude.{◌≡◌, ◌⊎◌, Bool, Ok, Err}
use Rattle.graphql_values.specs.declared.input_value.InputValue.{InputValue}
use Rattle.graphql_grammar.specs.Input.{At, Input, Fault}
use Rattle.graphql_grammar.specs.Relations.{Rel}
use Rattle.graphql_grammar.specs.Faults.{Reading, Spelled, FirstFaultyToken, SoughtAlone, Sought}
use Rattle.graphql_grammar.specs.Leaves.{LeftAt}
use Rattle.graphql_value_syntax.specs.ReadTypes.{TypeRef}
use Rattle.graphql_value_syntax.specs.Types.{TypeOf, no_scalar}
use Rattle.graphql_value_syntax.specs.Values.{ValueOf}
use Rattle.graphql_language.specs.Parser.{Rule}

module _ {S A : Type 0} (reads : Reading S) (Tree : Reading S → Rel A) where
  -- no tokens in front spell a tree
  abbrev pub NoneInFront : Input → Type 0
  NoneInFront i = (x : A) (j : Input) → Spelled reads (Tree reads) i x j → ⊥

  -- The fault of the first token that no tree could have there, where no tokens in front spell one.
  -- From that token on the input is left.
  abbrev pub Missing : Input → Fault → Input → Type 0
  Missing i e j = FirstFaultyToken reads Tree i e × NoneInFront i × LeftAt i e j

-- which tokens spell which value, by what scalars mean
abbrev pub LiteralOf : {S : Type 0} → (Bool → S) → Bool → Reading S → Rel (At (InputValue S))
LiteralOf {S} of_bool is_const reading = ValueOf S reading of_bool is_const

-- no scalar stands in a type reference
abbrev pub Types : Reading (Unit {0}) → Rel (At TypeRef)
Types reading = TypeOf

-- the value that stands next; no other stands there
abbrev pub NextValue : (S : Type 0) → Reading S → (Bool → S) → Bool → Rule (At (InputValue S))
NextValue S reads of_bool is_const i (Ok x) j = SoughtAlone reads (LiteralOf of_bool is_const) i
    (Ok (x, j))
NextValue S reads of_bool is_const i (Err e) j = Missing reads (LiteralOf of_bool is_const) i e j

-- the longest type reference that stands next
abbrev pub NextType : Rule (At TypeRef)
NextType i (Ok x) j = Sought no_scalar Types i (Ok (x, j))
NextType i (Err e) j = Missing no_scalar Types i e j

-- ---- laws

-- what stands next is never both read and refused
abbrev pub NeverBoth : {A : Type 0} → Rule A → Type 0
NeverBoth {A} rule = (i j k : Input) (x : A) (e : Fault) → rule i (Ok x) j → rule i (Err e) k → ⊥

-- and always one or the other
abbrev pub ReadOrRefused : {A : Type 0} → Rule A → Type 0
ReadOrRefused {A} rule = (i : Input)
    → ((x : A) × (j : Input) × rule i (Ok x) j)
    ⊎ ((e : Fault) × (j : Input) × rule i (Err e) j)

-- it is refused by one fault
abbrev pub OneRefusal : {A : Type 0} → Rule A → Type 0
OneRefusal {A} rule = (i j k : Input) (e f : Fault) → rule i (Err e) j → rule i (Err f) k → e ≡ f
