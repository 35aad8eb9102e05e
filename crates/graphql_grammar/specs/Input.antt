-- What a parser reads from, and parsers.
use Rattle.std.specs.Prelude.{◌≡◌, ℕ, List, [], ◌∷◌, length, drop, Result, Ok, Err}
use Rattle.graphql_text.specs.declared.position.Span.{Span}
use Rattle.graphql_text.specs.declared.position.SourcePosition.{SourcePosition}
use Rattle.graphql_text.specs.declared.spanning.Spanning.{Spanning}
use Rattle.graphql_text.specs.declared.token.Token.{Token}
use Rattle.graphql_text.specs.declared.token.Token.TheVariants as t
use Rattle.graphql_text.specs.declared.parse_error.ParseError.{ParseError}
use Rattle.graphql_text.specs.declared.parse_error.ParseError.TheVariants.{UnexpectedToken}
use Rattle.graphql_text.specs.declared.parse_error.ParseError.TheVariants.{UnexpectedEndOfFile}
use Rattle.graphql_text.specs.Spelling.{source_of}
pub use Rattle.graphql_text.specs.Refusals.{Fault, IsMemory}
use Rattle.graphql_text.specs.Memory.{UnlessMemory, MeetsBy}
use Rattle.graphql_grammar.specs.declared.kind.Kind.{Kind}
use Rattle.graphql_grammar.specs.Kinds.{kind}

-- a value at its place
abbrev pub At : Type 0 → Type 0
At A = Spanning A Span

-- a token at its place
abbrev pub Located : Type 0
Located = At Token

-- what is left to read, and where the text and the last token that was read end
pub record Input : Type 0 where
  -- the tokens that are left before the end of the text
  pub ahead : List Located
  -- the end of the text
  pub finish : Span
  -- where the last token that was read ends
  pub end : SourcePosition

-- the first of these tokens, else the end of the text
abbrev pub first : Span → List Located → Located
first finish [] = record { item = t.EndOfFile; span = finish }
first finish (x ∷ xs) = x

-- what stands next
unfoldable pub peek : Input → Located
peek i = first i.finish i.ahead

-- the kind of the next token
unfoldable pub peek_kind : Input → Kind
peek_kind i = kind (peek i).item

-- how many tokens are left before the end
abbrev pub left : Input → ℕ
left i = length i.ahead

abbrev pub end_after : SourcePosition → List Located → SourcePosition
end_after e [] = e
end_after e (x ∷ xs) = x.span.end

-- behind the next token
unfoldable pub next : Input → Input
next i = record i { ahead = drop 1 i.ahead; end = end_after i.end i.ahead }

-- ---- parsers

-- what is read with what is left behind it, or the fault
abbrev pub Outcome : Type 0 → Type 0
Outcome A = Result (A × Input) Fault

-- what is read of an input
abbrev pub Parser : Type 0 → Type 0
Parser A = Input → Outcome A

-- what is read goes to the next parser; a fault stays one
abbrev pub and_then : {A B : Type 0} → Outcome A → (A → Parser B) → Outcome B
and_then (Ok p) f = f p.0 p.1
and_then (Err e) f = Err e

infixl 10 ◌>>=◌
abbrev pub ◌>>=◌ : {A B : Type 0} → Parser A → (A → Parser B) → Parser B
p >>= f = λ i. and_then (p i) f

infixl 10 ◌>>◌
abbrev pub ◌>>◌ : {A B : Type 0} → Parser A → Parser B → Parser B
p >> q = p >>= (λ _. q)

-- this, of no token
abbrev pub pure : {A : Type 0} → A → Parser A
pure a = λ i. Ok (a, i)

-- the fault of a token that can't stand where it does: its source text, or the end of the text
abbrev pub unexpected : Token → ParseError
unexpected t.EndOfFile = UnexpectedEndOfFile
unexpected token = UnexpectedToken (source_of token)

-- the fault that the next token is not expected
unfoldable pub refusal : Input → Fault
refusal i = record { item = unexpected (peek i).item; span = (peek i).span }

-- refuses the next token
abbrev pub refuse : {A : Type 0} → Parser A
refuse = λ i. Err (refusal i)

-- ---- what functions that parse ensure

-- the parser's outcome
abbrev pub Reads : {A : Type 0} → Outcome A → Result A Fault → Input → Type 0
Reads outcome result new = MeetsBy (λ a. (a, new)) IsMemory result outcome

-- an error that stands for this one
abbrev pub StandsFor : Fault → Fault → Type 0
StandsFor wanted e = UnlessMemory IsMemory e (wanted ≡ e)

-- what stands next is what the error is about
abbrev pub StandsAt : {A : Type 0} → Result A Fault → Input → Type 0
StandsAt (Ok a) i = Unit {0}
StandsAt (Err e) i = UnlessMemory IsMemory e ((peek i).span ≡ e.span)
