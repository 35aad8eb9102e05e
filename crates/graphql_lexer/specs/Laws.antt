-- Laws of the tokens and faults of a text.
use Rattle.std.specs.Prelude.{◌≡◌, ◌≤◌, ◌<◌, ◌⊎◌, ◌↔◌, ℕ, ◌+◌, true, false, List, [], ◌∷◌, ◌++◌}
use Rattle.std.specs.Prelude.{length, map, slice_range, encode_utf8_all, Some, Ok, Err}
use Rattle.graphql_text.specs.declared.position.Span.{Span}
use Rattle.graphql_text.specs.declared.token.Token.{Token}
use Rattle.graphql_text.specs.declared.token.LexerError.TheVariants.{Memory}
use Rattle.graphql_text.specs.Position.{position_at}
use Rattle.graphql_text.specs.Reading.{Refusal, start_of}
use Rattle.graphql_text.specs.Spelling.{source_of}
use Rattle.graphql_text.specs.Tokens.{Located, is_end, Tokens, FirstFault}
use Rattle.graphql_text.specs.Grammar.{Spells, IsDivided, IsBroken}
use Rattle.graphql_lexer.specs.OneByOne.{Remains, TokenOrRefusal, GivesNext}

-- ---- the reading of a text and the grammar are one

-- what is read of a text are the tokens into which the grammar divides it, and no other list is
abbrev pub ReadingIsDivision : Type 0
ReadingIsDivision = (text : List ℕ) (ts : List Located) → Tokens text ts ↔ IsDivided text ts

-- the fault at which reading stops is the one at which the grammar's division ends, and no other is
abbrev pub ReadingIsBreak : Type 0
ReadingIsBreak = (text : List ℕ) (e : Refusal) → FirstFault text e ↔ IsBroken text e

-- ---- a text has one list of tokens, or one fault

abbrev pub OneList : Type 0
OneList = (text : List ℕ) (ts us : List Located) → IsDivided text ts → IsDivided text us → ts ≡ us

abbrev pub NotBoth : Type 0
NotBoth =
    (text : List ℕ) (ts : List Located) (e : Refusal) → IsDivided text ts → IsBroken text e → ⊥

abbrev pub OneFault : Type 0
OneFault = (text : List ℕ) (e f : Refusal) → IsBroken text e → IsBroken text f → e ≡ f

abbrev pub EitherWay : Type 0
EitherWay =
    (text : List ℕ) → ((ts : List Located) × IsDivided text ts) ⊎ ((e : Refusal) × IsBroken text e)

-- ---- what the tokens of a text are

-- a text of n characters has at most n + 1 tokens
abbrev pub FewTokens : Type 0
FewTokens = (text : List ℕ) (ts : List Located) → IsDivided text ts → length ts ≤ length text + 1

-- no token begins before this index, nor before the end of the one before it, none ends behind that
-- index, and each but the end of the text is wider than nothing
abbrev pub InOrder : ℕ → List Located → ℕ → Type 0
InOrder from [] to = from ≤ to
InOrder from (t ∷ ts) to =
    (from ≤ t.span.start.index) × (t.span.start.index ≤ t.span.end.index)
    × (is_end t.item ≡ false → t.span.start.index < t.span.end.index)
    × InOrder t.span.end.index ts to

abbrev pub SpansInOrder : Type 0
SpansInOrder = (text : List ℕ) (ts : List Located) → IsDivided text ts → InOrder 0 ts (length text)

abbrev pub Every : (Located → Type 0) → List Located → Type 0
Every P [] = Unit {0}
Every P (t ∷ ts) = P t × Every P ts

-- each place is the position of its index
abbrev pub PlacesArePositions : Type 0
PlacesArePositions = (text : List ℕ) (ts : List Located) → IsDivided text ts →
    Every (λ t. (t.span.start ≡ position_at text t.span.start.index)
    × (t.span.end ≡ position_at text t.span.end.index)) ts

-- the place of a fault is the position of its index
abbrev pub FaultIsPosition : Type 0
FaultIsPosition = (text : List ℕ) (e : Refusal) → IsBroken text e →
    (e.span.start ≡ position_at text e.span.start.index)
    × (e.span.end ≡ e.span.start)
    × (e.span.start.index ≤ length text)

-- the characters of a token: those of the text between its places
abbrev pub slice_of : List ℕ → Located → List ℕ
slice_of text t = slice_range text t.span.start.index t.span.end.index

-- each token is spelled by the characters between its places
abbrev pub SlicesSpell : Type 0
SlicesSpell = (text : List ℕ) (ts : List Located) → IsDivided text ts
    → Every (λ t. Spells t.item (slice_of text t)) ts

-- the source text of a token, a punctuator's too, is its slice
abbrev pub SourcesAreSlices : Type 0
SourcesAreSlices = (text : List ℕ) (ts : List Located) → IsDivided text ts
    → Every (λ t. source_of t.item ≡ encode_utf8_all (slice_of text t)) ts

-- a token is at least one character wide, but for the end of the text
abbrev pub TokensAreWide : Type 0
TokensAreWide = (text : List ℕ) (ts : List Located) → IsDivided text ts
    → Every (λ t. is_end t.item ≡ false → t.span.start.index < t.span.end.index) ts

-- a token ends in the line where it starts
abbrev pub TokensInALine : Type 0
TokensInALine = (text : List ℕ) (ts : List Located) → IsDivided text ts
    → Every (λ t. t.span.end.line ≡ t.span.start.line) ts

-- the same tokens at other places
abbrev pub placed : List Token → List Span → List Located
placed [] ss = []
placed (t ∷ ts) [] = []
placed (t ∷ ts) (s ∷ ss) = record { item = t; span = s } ∷ placed ts ss

-- two texts whose tokens have the same kinds and texts have tokens that differ in places alone
abbrev pub DifferInPlaces : Type 0
DifferInPlaces =
    (text other : List ℕ) (ts us : List Located) → IsDivided text ts → IsDivided other us →
    map (λ t. t.item) ts ≡ map (λ t. t.item) us
    → us ≡ placed (map (λ t. t.item) ts) (map (λ t. t.span) us)

-- ---- one by one

-- a lexer gives these answers one after another, from one state to another
abbrev pub GivesInTurn : Remains → List TokenOrRefusal → Remains → Type 0
GivesInTurn s [] t = s ≡ t
GivesInTurn s (a ∷ others) t = (m : Remains) × GivesNext s (Some a) m × GivesInTurn m others t

-- no answer tells that memory ran out
abbrev pub HadMemory : List TokenOrRefusal → Type 0
HadMemory [] = Unit {0}
HadMemory ((Ok x) ∷ others) = HadMemory others
HadMemory ((Err e) ∷ others) = (e.item ≡ Memory → ⊥) × HadMemory others

-- a lexer that was asked until it had done gave all tokens, or some tokens and the first fault
abbrev pub SameOneByOne : Type 0
SameOneByOne = (text : List ℕ) (answers : List TokenOrRefusal) (t : Remains)
    → GivesInTurn (record { place = start_of text; is_done = false }) answers t → t.is_done ≡ true
    → HadMemory answers →
    ((ts : List Located) × (answers ≡ map Ok ts) × IsDivided text ts)
    ⊎ ((front : List Located)
    × (e : Refusal)
    × (answers ≡ map Ok front ++ (Err e) ∷ [])
    × IsBroken text e)

-- a lexer that has done gives nothing more
abbrev pub NothingMore : Type 0
NothingMore = (s t : Remains) (a : TokenOrRefusal) → s.is_done ≡ true → GivesNext s (Some a) t → ⊥
