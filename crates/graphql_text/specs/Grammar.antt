-- The lexical grammar of a text: which characters spell each token, what can't follow it directly
-- (so that the longest is taken), what stands between tokens, and what each fault is.
-- (GraphQL October 2021, 2.1 Source Text, 2.9 Input Values. A name may follow a number directly
-- here.)
use Rattle.std.specs.Prelude.{◌≡◌, ◌≢◌, ◌≤◌, ◌<◌, ◌⊎◌, ℕ, nat_le, not, true, false, ◌&&◌, ◌||◌}
use Rattle.std.specs.Prelude.{Bool, None, List, [], ◌∷◌, ◌++◌, ◌+◌, ◌-◌, ◌*◌, length, ◌==◌}
use Rattle.std.specs.Prelude.{if◌then◌else◌, encode_utf8_all}
use Rattle.std.specs.Char.{is_ascii_digit, is_ascii_hexdigit, is_ascii_alphanumeric}
use Rattle.graphql_text.specs.declared.token.Token.{Token}
use Rattle.graphql_text.specs.declared.token.Token.TheVariants.{Name, Scalar, ExclamationMark}
use Rattle.graphql_text.specs.declared.token.Token.TheVariants.{Dollar, ParenOpen, ParenClose}
use Rattle.graphql_text.specs.declared.token.Token.TheVariants.{BracketOpen, BracketClose}
use Rattle.graphql_text.specs.declared.token.Token.TheVariants.{CurlyOpen, CurlyClose, Ellipsis}
use Rattle.graphql_text.specs.declared.token.Token.TheVariants.{Colon, Equals, At, Pipe, EndOfFile}
use Rattle.graphql_text.specs.declared.token.ScalarToken.TheVariants.{String, Float, Int}
use Rattle.graphql_text.specs.declared.token.LexerError.{LexerError}
use Rattle.graphql_text.specs.declared.token.LexerError.TheVariants.{
  UnknownCharacter,
  UnexpectedCharacter,
  UnterminatedString,
  UnknownCharacterInString,
  UnknownEscapeSequence,
  UnexpectedEndOfFile,
}
use Rattle.graphql_text.specs.declared.class.Class.{Class}
use Rattle.graphql_text.specs.declared.class.Class.TheVariants as class
use Rattle.graphql_text.specs.Characters.{is_blank, continues_name}
use Rattle.graphql_text.specs.Position.{position_of}
use Rattle.graphql_text.specs.Reading.{is_in, Refusal}
use Rattle.graphql_text.specs.Strings.{is_escape}
use Rattle.graphql_text.specs.Tokens.{Located, punctuator_of, is_end}

-- each character passes a test; one by one, as proofs take a text apart, where the library's
-- AllPass goes by index
abbrev pub Each : (ℕ → Bool) → List ℕ → Type 0
Each p [] = Unit {0}
Each p (c ∷ cs) = (p c ≡ true) × Each p cs

-- this character comes next
abbrev pub NextIs : ℕ → List ℕ → Type 0
NextIs c [] = ⊥
NextIs c (d ∷ ds) = c ≡ d

-- no character that passes the test comes next
abbrev pub NextIsNot : (ℕ → Bool) → List ℕ → Type 0
NextIsNot p [] = Unit {0}
NextIsNot p (d ∷ ds) = p d ≡ false

-- one character of a kind, or none
abbrev pub IsOptional : Class → List ℕ → Type 0
IsOptional k cs = (cs ≡ []) ⊎ ((c : ℕ) × (is_in k c ≡ true) × (cs ≡ c ∷ []))

-- ---- names (2.1.9)

-- characters that are a name (2.1.9 Names)
abbrev pub IsName : List ℕ → Type 0
IsName [] = ⊥
IsName (c ∷ cs) = (is_in class.NameStart c ≡ true) × Each continues_name cs

-- ---- numbers (2.9.1, 2.9.2)

-- one digit or more
abbrev pub IsDigits : List ℕ → Type 0
IsDigits [] = ⊥
IsDigits (c ∷ cs) = (is_ascii_digit c ≡ true) × Each is_ascii_digit cs

-- 0, or digits that begin with another one
abbrev pub IsWhole : List ℕ → Type 0
IsWhole cs = (cs ≡ 48 ∷ []) ⊎ (IsDigits cs × NextIsNot (λ c. c == 48) cs)

-- the integer part: a minus or none, and a whole number
pub record IsInteger (cs : List ℕ) : Type 0 where
  pub sign : List ℕ
  pub whole : List ℕ
  pub is : cs ≡ sign ++ whole
  pub sign_is : IsOptional class.Minus sign
  pub whole_is : IsWhole whole

-- a point and digits
pub record IsFraction (cs : List ℕ) : Type 0 where
  pub digits : List ℕ
  pub is : cs ≡ 46 ∷ digits
  pub digits_are : IsDigits digits

-- the beginning of an exponent: its letter, and a sign or none
pub record BeginsExponent (cs : List ℕ) : Type 0 where
  pub letter : ℕ
  pub sign : List ℕ
  pub is : cs ≡ letter ∷ sign
  pub letter_is : is_in class.Exponent letter ≡ true
  pub sign_is : IsOptional class.Sign sign

pub record IsExponent (cs : List ℕ) : Type 0 where
  pub front : List ℕ
  pub digits : List ℕ
  pub is : cs ≡ front ++ digits
  pub begins : BeginsExponent front
  pub digits_are : IsDigits digits

-- an integer part and a fraction or none
pub record IsMantissa (cs : List ℕ) : Type 0 where
  pub integer : List ℕ
  pub fraction : List ℕ
  pub is : cs ≡ integer ++ fraction
  pub integer_is : IsInteger integer
  pub fraction_is : (fraction ≡ []) ⊎ IsFraction fraction

-- an integer part with a fraction, an exponent or both
pub record IsFloat (cs : List ℕ) : Type 0 where
  pub integer : List ℕ
  pub fraction : List ℕ
  pub exponent : List ℕ
  pub is : cs ≡ integer ++ (fraction ++ exponent)
  pub integer_is : IsInteger integer
  pub fraction_is : (fraction ≡ []) ⊎ IsFraction fraction
  pub exponent_is : (exponent ≡ []) ⊎ IsExponent exponent
  pub one : IsFraction fraction ⊎ IsExponent exponent

-- ---- strings (2.9.4)

-- what stands in a string: a character as it is, an escape of one, a code of four digits
pub data Piece : Type 0 where
  character : ℕ → Piece
  escaped : ℕ → Piece
  code : ℕ → ℕ → ℕ → ℕ → Piece

abbrev pub spelling : Piece → List ℕ
spelling (character c) = c ∷ []
spelling (escaped c) = 92 ∷ c ∷ []
spelling (code a b c d) = 92 ∷ 117 ∷ a ∷ b ∷ c ∷ d ∷ []

-- no quote, no backslash, no line end, no other control but a tab
abbrev pub is_string_character : ℕ → Bool
is_string_character c = not (c == 34) && not (c == 92) && (nat_le 32 c || c == 9)

-- the number that a hexadecimal digit stands for
abbrev pub hex_value : ℕ → ℕ
hex_value c = if nat_le c 57 then c - 48 else (if nat_le c 70 then c - 55 else c - 87)

-- four hexadecimal digits that give a character: not one of the halves of a pair, D800 to DFFF
abbrev pub IsCode : List ℕ → Type 0
IsCode (a ∷ b ∷ c ∷ d ∷ []) =
    Each is_ascii_hexdigit (a ∷ b ∷ c ∷ d ∷ [])
    × (let value = 4096 * hex_value a + 256 * hex_value b + 16 * hex_value c + hex_value d in
    (value < 0xD800) ⊎ (0xDFFF < value))
IsCode _ = ⊥

abbrev pub IsPiece : Piece → Type 0
IsPiece (character c) = is_string_character c ≡ true
IsPiece (escaped c) = is_escape c ≡ true
IsPiece (code a b c d) = IsCode (a ∷ b ∷ c ∷ d ∷ [])

-- each of these is a piece
abbrev pub ArePieces : List Piece → Type 0
ArePieces [] = Unit {0}
ArePieces (x ∷ xs) = IsPiece x × ArePieces xs

-- the characters of pieces, one behind another
abbrev pub spellings : List Piece → List ℕ
spellings [] = []
spellings (x ∷ xs) = spelling x ++ spellings xs

-- what may stand between the quotes of a string
pub record IsStringText (cs : List ℕ) : Type 0 where
  pub pieces : List Piece
  pub are : ArePieces pieces
  pub is : cs ≡ spellings pieces

-- ---- tokens (2.1.6)

pub record IsQuoted (cs text : List ℕ) : Type 0 where
  pub is : cs ≡ 34 ∷ (text ++ 34 ∷ [])
  pub text_is : IsStringText text

-- the characters that spell a token
abbrev pub Spells : Token → List ℕ → Type 0
Spells (Name s) cs = IsName cs × (s ≡ encode_utf8_all cs)
Spells (Scalar (Int s)) cs = IsInteger cs × (s ≡ encode_utf8_all cs)
Spells (Scalar (Float s)) cs = IsFloat cs × (s ≡ encode_utf8_all cs)
Spells (Scalar (String s)) cs = (text : List ℕ) × IsQuoted cs text × (s ≡ encode_utf8_all text)
Spells ExclamationMark cs = cs ≡ 33 ∷ []
Spells Dollar cs = cs ≡ 36 ∷ []
Spells ParenOpen cs = cs ≡ 40 ∷ []
Spells ParenClose cs = cs ≡ 41 ∷ []
Spells BracketOpen cs = cs ≡ 91 ∷ []
Spells BracketClose cs = cs ≡ 93 ∷ []
Spells CurlyOpen cs = cs ≡ 123 ∷ []
Spells CurlyClose cs = cs ≡ 125 ∷ []
Spells Ellipsis cs = cs ≡ 46 ∷ 46 ∷ 46 ∷ []
Spells Colon cs = cs ≡ 58 ∷ []
Spells Equals cs = cs ≡ 61 ∷ []
Spells At cs = cs ≡ 64 ∷ []
Spells Pipe cs = cs ≡ 124 ∷ []
Spells EndOfFile cs = cs ≡ []

-- a letter of an exponent is among these
abbrev pub HasExponent : List ℕ → Type 0
HasExponent [] = ⊥
HasExponent (c ∷ cs) = (is_in class.Exponent c ≡ true) ⊎ HasExponent cs

-- what may follow a token directly: nothing that would make it longer, no digit behind a leading
-- zero, and nothing at all behind the end
abbrev pub Ends : Token → List ℕ → List ℕ → Type 0
Ends (Name s) cs rest = NextIsNot continues_name rest
Ends (Scalar (Int s)) cs rest = NextIsNot is_ascii_digit rest
    × NextIsNot (is_in class.Point) rest
    × NextIsNot (is_in class.Exponent) rest
Ends (Scalar (Float s)) cs rest =
    NextIsNot is_ascii_digit rest × (HasExponent cs ⊎ NextIsNot (is_in class.Exponent) rest)
Ends EndOfFile cs rest = rest ≡ []
Ends _ cs rest = Unit {0}

-- ---- faults

-- a digit should come next and none does
abbrev pub LacksDigit : LexerError → List ℕ → Type 0
LacksDigit (UnexpectedCharacter c) rest = NextIs c rest × (is_ascii_digit c ≡ false)
LacksDigit UnexpectedEndOfFile rest = rest ≡ []
LacksDigit _ rest = ⊥

-- a number up to behind the letter of its exponent and the sign, if one follows
pub record NeedsExponent (cs rest : List ℕ) : Type 0 where
  pub mantissa : List ℕ
  pub letter : ℕ
  pub sign : List ℕ
  pub is : cs ≡ mantissa ++ (letter ∷ sign)
  pub mantissa_is : IsMantissa mantissa
  pub letter_is : is_in class.Exponent letter ≡ true
  pub sign_is : IsOptional class.Sign sign
  pub no_sign : (sign ≡ []) → NextIsNot (is_in class.Sign) rest

-- the beginning of a number that a digit must follow: a minus, a point, or a letter of an exponent
-- with its sign
abbrev pub NeedsDigit : List ℕ → List ℕ → Type 0
NeedsDigit cs rest = (cs ≡ 45 ∷ [])
    ⊎ (((integer : List ℕ) × IsInteger integer × (cs ≡ integer ++ 46 ∷ [])) ⊎ NeedsExponent cs rest)

-- a leading zero, with a minus or none before it
abbrev pub IsZero : List ℕ → Type 0
IsZero cs = (sign : List ℕ) × IsOptional class.Minus sign × (cs ≡ sign ++ 48 ∷ [])

-- one or two points
abbrev pub ArePoints : List ℕ → Type 0
ArePoints cs = (cs ≡ 46 ∷ []) ⊎ (cs ≡ 46 ∷ 46 ∷ [])

-- the beginning of a string, up to a place outside an escape
abbrev pub IsOpenString : List ℕ → Type 0
IsOpenString cs = (text : List ℕ) × IsStringText text × (cs ≡ 34 ∷ text)

-- the beginning of a string, up to just behind a backslash
abbrev pub IsOpenEscape : List ℕ → Type 0
IsOpenEscape cs = (text : List ℕ) × IsStringText text × (cs ≡ 34 ∷ (text ++ 92 ∷ []))

-- the beginning of a string, up to fewer than four letters or digits behind a backslash and `u`
abbrev pub IsOpenCode : List ℕ → Type 0
IsOpenCode cs = (text letters : List ℕ)
    × IsStringText text
    × Each is_ascii_alphanumeric letters
    × (length letters ≤ 3)
    × (cs ≡ 34 ∷ (text ++ 92 ∷ 117 ∷ letters))

-- an escape that stands for no character, from behind its backslash on: one character, or `u` and
-- the letters and digits, at most four, that follow it directly
abbrev pub IsBadEscape : List ℕ → List ℕ → Type 0
IsBadEscape [] behind = ⊥
IsBadEscape (c ∷ cs) behind =
    ((cs ≡ []) × (is_escape c ≡ false) × (c ≢ 117))
    ⊎ ((c ≡ 117) × Each is_ascii_alphanumeric cs × (((length cs ≡ 4) × (IsCode cs → ⊥))
    ⊎ ((length cs ≤ 3) × NextIsNot is_ascii_alphanumeric behind × (behind ≢ []))))

-- what begins no token
abbrev pub BeginsNone : ℕ → Type 0
BeginsNone c = (is_in class.NameStart c ≡ false)
    × (is_ascii_digit c ≡ false)
    × (c ≢ 45)
    × (c ≢ 46)
    × (c ≢ 34)
    × (punctuator_of c ≡ None)

-- a fault: the characters of its token before it, and those from it on
abbrev pub IsFault : LexerError → List ℕ → List ℕ → Type 0
IsFault (UnknownCharacter c) cs rest = (cs ≡ []) × NextIs c rest × BeginsNone c
IsFault (UnexpectedCharacter c) cs rest =
    ((cs ≡ []) × (c ≡ 46) × ((points more : List ℕ)
    × ArePoints points
    × (rest ≡ points ++ more)
    × NextIsNot (is_in class.Point) more
    × (more ≢ [])))
    ⊎ ((NeedsDigit cs rest × NextIs c rest × (is_ascii_digit c ≡ false))
    ⊎ (IsZero cs × NextIs c rest × (is_ascii_digit c ≡ true)))
IsFault UnexpectedEndOfFile cs rest = (rest ≡ []) × (NeedsDigit cs rest ⊎ ArePoints cs)
IsFault UnterminatedString cs rest =
    (IsOpenString cs × (NextIs 10 rest ⊎ NextIs 13 rest))
    ⊎ ((rest ≡ []) × (IsOpenString cs ⊎ (IsOpenEscape cs ⊎ IsOpenCode cs)))
IsFault (UnknownCharacterInString c) cs rest =
    IsOpenString cs × NextIs c rest × (c < 32) × (c ≢ 9) × (c ≢ 10) × (c ≢ 13)
IsFault (UnknownEscapeSequence s) cs rest =
    IsOpenEscape cs × ((escape behind : List ℕ)
    × (rest ≡ escape ++ behind)
    × IsBadEscape escape behind
    × (s ≡ 92 ∷ encode_utf8_all escape))
IsFault _ cs rest = ⊥

-- ---- what stands between tokens (2.1.1 to 2.1.7)

-- a character that is ignored, or a comment from its `#` on
pub data Ignored : Type 0 where
  blank : ℕ → Ignored
  comment : List ℕ → Ignored

abbrev pub gap_of : List Ignored → List ℕ
gap_of [] = []
gap_of (blank c ∷ is) = c ∷ gap_of is
gap_of (comment cs ∷ is) = 35 ∷ (cs ++ gap_of is)

-- a comment goes on as long as it can, up to a control other than tab, or the end
abbrev pub AreIgnored : List Ignored → List ℕ → Type 0
AreIgnored [] rest = Unit {0}
AreIgnored (blank c ∷ is) rest = (is_blank c ≡ true) × AreIgnored is rest
AreIgnored (comment cs ∷ is) rest = Each (is_in class.Comment) cs
    × NextIsNot (is_in class.Comment) (gap_of is ++ rest)
    × AreIgnored is rest

-- what stands between two tokens, and ends where a token or a fault begins
pub record IsGap (gap rest : List ℕ) : Type 0 where
  pub ignored : List Ignored
  pub is : gap ≡ gap_of ignored
  pub are : AreIgnored ignored rest
  pub no_more : NextIsNot (λ c. is_blank c || c == 35) rest

-- ---- whole texts

-- a token behind these characters, at the head of those: what is ignored, its own characters, and
-- what is behind; its places are the positions of its first character and of the one behind its
-- last
pub record Heads (before rest : List ℕ) (t : Located) (after behind : List ℕ) : Type 0 where
  pub gap : List ℕ
  pub own : List ℕ
  pub is : rest ≡ gap ++ (own ++ behind)
  pub after_is : after ≡ (before ++ gap) ++ own
  pub gap_is : IsGap gap (own ++ behind)
  pub spells : Spells t.item own
  pub ends : Ends t.item own behind
  pub start : t.span.start ≡ position_of (before ++ gap)
  pub end : t.span.end ≡ position_of after

-- tokens that are no end, from behind some characters to behind more of them
abbrev pub Divides : List ℕ → List ℕ → List Located → List ℕ → List ℕ → Type 0
Divides before rest [] after behind = (before ≡ after) × (rest ≡ behind)
Divides before rest (t ∷ ts) after behind =
    (middle more : List ℕ)
    × Heads before rest t middle more
    × (is_end t.item ≡ false)
    × Divides middle more ts after behind

-- the text is divided into these tokens, the end last and nowhere else
pub record IsDivided (text : List ℕ) (ts : List Located) : Type 0 where
  pub front : List Located
  pub last : Located
  pub is : ts ≡ front ++ last ∷ []
  pub before : List ℕ
  pub rest : List ℕ
  pub divides : Divides [] text front before rest
  pub heads : Heads before rest last text []
  pub end : is_end last.item ≡ true

-- the text is divided into tokens up to a fault, which is at the position of its character
pub record IsBroken (text : List ℕ) (e : Refusal) : Type 0 where
  pub front : List Located
  pub before : List ℕ
  pub rest : List ℕ
  pub divides : Divides [] text front before rest
  pub gap : List ℕ
  pub own : List ℕ
  pub behind : List ℕ
  pub is : rest ≡ gap ++ (own ++ behind)
  pub gap_is : IsGap gap (own ++ behind)
  pub fault : IsFault e.item own behind
  pub start : e.span.start ≡ position_of ((before ++ gap) ++ own)
  pub end : e.span.end ≡ position_of ((before ++ gap) ++ own)
