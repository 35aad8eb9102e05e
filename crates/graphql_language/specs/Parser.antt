-- A parser that users call: what is left of its text, and the refusal that it has given.
use Rattle.std.specs.Prelude.{◌≡◌, ◌≢◌, ℕ, List, Option, Some, None, Result, Ok, Err, MatchOption}
use Rattle.graphql_text.specs.declared.token.Token.{Token}
use Rattle.graphql_text.specs.declared.token.Token.TheVariants.{Name, EndOfFile}
use Rattle.graphql_text.specs.Memory.{UnlessMemory}
use Rattle.graphql_grammar.specs.Input.{At, Input, Located, Fault, IsMemory, StandsFor, peek, next}
use Rattle.graphql_grammar.specs.Input.{refusal}

-- what a parser has left to read, and its fault if it refused
pub record State : Type 0 where
  pub input : Input
  -- a parser that has refused has failed
  pub refused : Option Fault

-- ---- rules: what may be answered at an input, and what is left then

-- what is read of an input, and what it leaves
abbrev pub Rule : Type 0 → Type 1
Rule A = Input → Result A Fault → Input → Type 0

-- the next token, which the text has
abbrev pub NextToken : Rule Located
NextToken i (Ok token) j = ((peek i).item ≢ EndOfFile) × (token ≡ peek i) × (j ≡ next i)
NextToken i (Err e) j = ((peek i).item ≡ EndOfFile) × (e ≡ refusal i) × (j ≡ i)

-- the next token, which is this one, and not the end of the text
abbrev pub ThisToken : Token → Rule Located
ThisToken wanted i (Ok token) j =
    ((peek i).item ≡ wanted) × ((peek i).item ≢ EndOfFile) × (token ≡ peek i) × (j ≡ next i)
ThisToken wanted i (Err e) j =
    ((peek i).item ≡ wanted → (peek i).item ≡ EndOfFile) × (e ≡ refusal i) × (j ≡ i)

-- the next token if it is this one, and else nothing; the text has a next one
abbrev pub MaybeToken : Token → Rule (Option Located)
MaybeToken wanted i (Ok (Some token)) j =
    ((peek i).item ≡ wanted) × ((peek i).item ≢ EndOfFile) × (token ≡ peek i) × (j ≡ next i)
MaybeToken wanted i (Ok None) j = ((peek i).item ≢ wanted) × ((peek i).item ≢ EndOfFile) × (j ≡ i)
MaybeToken wanted i (Err e) j = ((peek i).item ≡ EndOfFile) × (e ≡ refusal i) × (j ≡ i)

-- the next token, which is a name, as that name at its place
abbrev pub NextName : Rule (At (List ℕ))
NextName i (Ok name) j =
    ((peek i).item ≡ Name name.item) × (name.span ≡ (peek i).span) × (j ≡ next i)
NextName i (Err e) j = ((name : List ℕ) → (peek i).item ≢ Name name) × (e ≡ refusal i) × (j ≡ i)

-- ---- what calls ensure, want of memory aside

-- the fault that was given, once more
abbrev pub RefusesAgain : {A : Type 0} → Fault → Result A Fault → Type 0
RefusesAgain e (Ok x) = ⊥
RefusesAgain e (Err f) = StandsFor e f

-- it refuses by a fault, which the parser keeps, and stands at the token that the fault is about
pub record Fails {A : Type 0} (rule : Rule A) (i : Input) (f : Fault) (new : State) : Type 0 where
  pub fault : Fault
  pub kept : new.refused ≡ Some fault
  pub told : StandsFor fault f
  pub refuses : UnlessMemory IsMemory fault (rule i (Err fault) new.input)
  pub stands : UnlessMemory IsMemory fault ((peek new.input).span ≡ fault.span)

-- of a parser that has not failed
abbrev pub CallsFresh : {A : Type 0} → Rule A → Input → Result A Fault → State → Type 0
CallsFresh rule i (Ok x) new = rule i (Ok x) new.input × (new.refused ≡ None)
CallsFresh rule i (Err f) new = Fails rule i f new

-- a parser that has failed answers its refusal again, and stays
abbrev pub Calls : {A : Type 0} → Rule A → State → Result A Fault → State → Type 0
Calls rule old result new = MatchOption old.refused (CallsFresh rule old.input result new)
    (λ e. RefusesAgain e result × (new ≡ old))

-- ---- the parts of a call

-- nothing where nothing was refused, else that refusal
abbrev pub Ready : State → Result (Unit {0}) Fault → Type 0
Ready s (Ok u) = s.refused ≡ None
Ready s (Err f) = (e : Fault) × (s.refused ≡ Some e) × StandsFor e f

-- what was read of an input; a refusal is about the token that stands next
abbrev pub ReadsBy : {A : Type 0} → Rule A → Input → Result A Fault → Input → Type 0
ReadsBy rule i (Ok x) j = rule i (Ok x) j
ReadsBy rule i (Err e) j = UnlessMemory IsMemory e (rule i (Err e) j × ((peek j).span ≡ e.span))

-- the refusal that stays: the first
abbrev pub first_of : Option Fault → Fault → Fault
first_of None e = e
first_of (Some first) e = first

-- the same answer; of a fault the parser keeps that it has failed by it, unless it had failed
-- before: the first refusal stays
abbrev pub KeepsRefusal : {A : Type 0} → Result A Fault → State → Result A Fault → State → Type 0
KeepsRefusal (Ok x) old result new = (result ≡ Ok x) × (new ≡ old)
KeepsRefusal (Err e) old result new =
    RefusesAgain e result
    × (new ≡ record { input = old.input; refused = Some (first_of old.refused e) })
