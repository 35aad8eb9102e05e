-- What a parser answers is all that may be answered where it stands.
use Rattle.std.specs.Prelude.{◌≡◌, Some, Result, Ok, Err}
use Rattle.graphql_text.specs.Memory.{UnlessMemory}
use Rattle.graphql_grammar.specs.Input.{Input, Fault, IsMemory}
use Rattle.graphql_language.specs.Parser.{Rule, State}

module _ {A : Type 0} (rule : Rule A) (i : Input) where
  -- by a rule, nothing is refused at an input
  abbrev pub NeverRefused : Type 0
  NeverRefused = (e : Fault) (j : Input) → rule i (Err e) j → ⊥

  -- nothing is read there, and it is refused by no other fault
  abbrev pub RefusedAlone : Fault → Type 0
  RefusedAlone fault = ((x : A) (j : Input) → rule i (Ok x) j → ⊥)
      × ((e : Fault) (j : Input) → rule i (Err e) j → e ≡ fault)

  -- what a call answers, and the parser that it leaves; the fault is what the parser keeps, want of
  -- memory aside
  abbrev pub AnsweredAlone : Result A Fault → State → Type 0
  AnsweredAlone (Ok x) left = NeverRefused
  AnsweredAlone (Err f) left = (fault : Fault)
      × (left.refused ≡ Some fault)
      × UnlessMemory IsMemory fault (RefusedAlone fault)
