-- What is written is read back: laws of written texts.
use Rattle.std.specs.Prelude.{◌≡◌, ℕ, Bool, false, List, [], ◌++◌, None, Result, Ok, Err}
use Rattle.std.specs.Str.{chars}
use Rattle.graphql_text.specs.declared.position.Span.{Span}
use Rattle.graphql_text.specs.declared.token.Token.{Token}
use Rattle.graphql_text.specs.declared.parse_error.ParseError.TheVariants.{Memory}
use Rattle.graphql_text.specs.Tokens.{Located, is_end}
use Rattle.graphql_text.specs.Grammar.{Ends}
use Rattle.graphql_scalars.specs.declared.default_scalar.DefaultScalarValue.{DefaultScalarValue}
use Rattle.graphql_scalars.specs.declared.default_scalar.DefaultScalarValue.TheVariants as scalar
use Rattle.graphql_scalars.specs.DefaultScalar.{reads}
use Rattle.graphql_values.specs.declared.input_value.InputValue.{InputValue}
use Rattle.graphql_values.specs.InputValues.{unlocated}
use Rattle.graphql_values.specs.SameValue.{SameValue}
use Rattle.graphql_names.specs.TypeReference.{written_type}
use Rattle.graphql_grammar.specs.Input.{At, Input, Fault, Outcome}
use Rattle.graphql_grammar.specs.Cursor.{IsStart}
use Rattle.graphql_grammar.specs.Faults.{SoughtAlone, Sought}
use Rattle.graphql_language.specs.Literals.{LiteralOf, Types, NextValue, NextType}
use Rattle.graphql_language.specs.Parser.{State, Calls}
use Rattle.graphql_language.specs.Texts.{IsCut}
use Rattle.graphql_value_syntax.specs.Values.{ValueOf}
use Rattle.graphql_value_syntax.specs.ReadTypes.{TypeRef}
use Rattle.graphql_value_syntax.specs.Types.{TypeOf, no_scalar}
use Rattle.graphql_plain_text.specs.Writable.{Value, value_text, IsWritable}
use Rattle.graphql_plain_text.specs.WritableTypes.{IsWritableType}
use Rattle.graphql_plain_text.specs.Parts.{TextPart, AreBlank, IsClosed, parts_text, AllFit}
use Rattle.graphql_plain_text.specs.Parts.{tokens_of}
use Rattle.graphql_plain_text.specs.Parts.{end_of}

-- ---- parts (2.1.6 Lexical Tokens)

-- the tokens of a text in parts, with blanks behind them, are those of its parts
abbrev pub PartsAreTokens : Type 0
PartsAreTokens = (ps : List TextPart) (blanks : List ℕ) → AreBlank blanks → AllFit ps blanks
    → IsCut (parts_text ps ++ blanks) (tokens_of [] ps) (end_of (parts_text ps ++ blanks))

-- where what follows is closed each token ends
abbrev pub ClosedTokensEnd : Type 0
ClosedTokensEnd = (token : Token) (own behind : List ℕ) → is_end token ≡ false → IsClosed behind
    → Ends token own behind

-- ---- input values (2.9 Input Values)

-- which tokens spell which value
abbrev pub Of : Bool → List Located → At Value → Type 0
Of is_const = ValueOf DefaultScalarValue reads scalar.Boolean is_const

-- the tokens of the text spell this value, places aside, and no other
pub record SpellsValue (is_const : Bool) (text : List ℕ) (value : Value) : Type 0 where
  pub tokens : List Located
  pub finish : Span
  pub cut : IsCut text tokens finish
  pub tree : At Value
  pub spells : Of is_const tokens tree
  pub same : unlocated tree.item ≡ unlocated value
  pub only : (other : At Value) → Of is_const tokens other → other ≡ tree

-- the tokens of the text spell this value, at its place
pub record IsSpelledBy (is_const : Bool) (text : List ℕ) (x : At Value) : Type 0 where
  pub tokens : List Located
  pub finish : Span
  pub cut : IsCut text tokens finish
  pub spells : Of is_const tokens x

-- the text of a value spells it
abbrev pub ShownSpells : Type 0
ShownSpells = (is_const : Bool) (value : Value) → IsWritable is_const value
    → SpellsValue is_const (chars (value_text value)) value

-- the value was found, places aside, as its text spells it, and nothing is left but the end
abbrev pub IsReadBack : Bool → Value → Outcome (At Value) → Type 0
IsReadBack is_const value (Ok p) = (unlocated p.0.item ≡ unlocated value)
    × (p.1.ahead ≡ [])
    × IsSpelledBy is_const (chars (value_text value)) p.0
IsReadBack is_const value (Err e) = ⊥

-- whatever is found at the start of the text of a value is that value
abbrev pub ShownIsFound : Type 0
ShownIsFound =
    (is_const : Bool) (value : Value) → IsWritable is_const value → (i : Input)
    → IsStart (chars (value_text value)) i → (found : Outcome (At Value))
    → SoughtAlone reads (LiteralOf scalar.Boolean is_const) i found
    → IsReadBack is_const value found

-- a parser gives the value, places aside, as its text spells it, and stands at the end; else memory
-- ran out
abbrev pub GivesBack : Bool → Value → Result (At Value) Fault → State → Type 0
GivesBack is_const value (Ok x) new = (unlocated x.item ≡ unlocated value)
    × (new.input.ahead ≡ [])
    × IsSpelledBy is_const (chars (value_text value)) x
GivesBack is_const value (Err e) new = e.item ≡ Memory

-- a parser at the start of the text of a value reads that value
abbrev pub ShownIsReadBack : Type 0
ShownIsReadBack =
    (is_const : Bool) (value : Value) → IsWritable is_const value
    → (old new : State) (result : Result (At Value) Fault)
    → IsStart (chars (value_text value)) old.input → old.refused ≡ None
    → Calls (NextValue DefaultScalarValue reads scalar.Boolean is_const) old result new
    → GivesBack is_const value result new

-- values that are alike once their places are left out are the same, wherever they stand
abbrev pub SameWithoutPlaces : {S : Type 0} → (S → S → Bool) → Type 0
SameWithoutPlaces {S} eq = (a b : InputValue S) → unlocated a ≡ unlocated b → SameValue S eq a b

-- ---- type references (2.11 Type References)

-- the tokens of the text spell this type, and no other
pub record SpellsType (text : List ℕ) (t : TypeRef) : Type 0 where
  pub tokens : List Located
  pub finish : Span
  pub cut : IsCut text tokens finish
  pub span : Span
  pub spells : TypeOf tokens (record { item = t; span = span })
  pub only : (other : At TypeRef) → TypeOf tokens other → other.item ≡ t

-- what a type is displayed as spells it
abbrev pub WrittenSpells : Type 0
WrittenSpells = (t : TypeRef) → IsWritableType t
    → SpellsType (chars (written_type t.name t.modifiers)) t

-- the type was found, and nothing is left but the end
abbrev pub IsTypeFound : TypeRef → Outcome (At TypeRef) → Type 0
IsTypeFound t (Ok p) = (p.0.item ≡ t) × (p.1.ahead ≡ [])
IsTypeFound t (Err e) = ⊥

-- the longest type that is found at the start of what a type is displayed as is that type
abbrev pub WrittenIsFound : Type 0
WrittenIsFound =
    (t : TypeRef) → IsWritableType t → (i : Input)
    → IsStart (chars (written_type t.name t.modifiers)) i
    → (found : Outcome (At TypeRef)) → Sought no_scalar Types i found → IsTypeFound t found

-- a parser gives the type and stands at the end; else memory ran out
abbrev pub GivesTypeBack : TypeRef → Result (At TypeRef) Fault → State → Type 0
GivesTypeBack t (Ok x) new = (x.item ≡ t) × (new.input.ahead ≡ [])
GivesTypeBack t (Err e) new = e.item ≡ Memory

-- a parser at the start of what a type is displayed as reads that type
abbrev pub WrittenIsReadBack : Type 0
WrittenIsReadBack =
    (t : TypeRef) → IsWritableType t → (old new : State) (result : Result (At TypeRef) Fault)
    → IsStart (chars (written_type t.name t.modifiers)) old.input → old.refused ≡ None
    → Calls NextType old result new → GivesTypeBack t result new
