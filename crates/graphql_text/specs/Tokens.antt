-- The tokens of a text (GraphQL October 2021, 2.1.6 Lexical Tokens to 2.1.9 Names).
use Rattle.std.specs.Prelude.{◌≡◌, ℕ, true, false, ◌&&◌, Option, Some, None, ◌||◌, Bool, List, []}
use Rattle.std.specs.Prelude.{◌∷◌, ◌++◌, if◌then◌else◌, ◌==◌, Result, Ok, Err, encode_utf8_all}
use Rattle.std.specs.Char.{is_ascii_digit}
use Rattle.graphql_text.specs.declared.position.SourcePosition.{SourcePosition}
use Rattle.graphql_text.specs.declared.position.Span.{Span}
use Rattle.graphql_text.specs.declared.spanning.Spanning.{Spanning}
use Rattle.graphql_text.specs.declared.token.Token.{Token}
use Rattle.graphql_text.specs.declared.token.Token.TheVariants.{Name, ExclamationMark, Dollar}
use Rattle.graphql_text.specs.declared.token.Token.TheVariants.{ParenOpen, ParenClose, BracketOpen}
use Rattle.graphql_text.specs.declared.token.Token.TheVariants.{BracketClose, CurlyOpen, CurlyClose}
use Rattle.graphql_text.specs.declared.token.Token.TheVariants.{Ellipsis, Colon, Equals, At, Pipe}
use Rattle.graphql_text.specs.declared.token.Token.TheVariants.{EndOfFile}
use Rattle.graphql_text.specs.declared.token.LexerError.TheVariants.{
  UnknownCharacter,
  UnexpectedCharacter,
  UnexpectedEndOfFile,
}
use Rattle.graphql_text.specs.declared.class.Class.TheVariants as class
use Rattle.graphql_text.specs.Position.{step}
use Rattle.graphql_text.specs.Reading.{Place, Refusal, refused, ◌>>=◌, is_in, past, between}
use Rattle.graphql_text.specs.Reading.{start_of}
use Rattle.graphql_text.specs.Numbers.{number}
use Rattle.graphql_text.specs.Strings.{string}

-- the punctuator of one character
abbrev pub punctuator_of : ℕ → Option Token
punctuator_of c =
    if c == 33 then Some ExclamationMark else (if c == 36 then Some Dollar
    else (if c == 40 then Some ParenOpen else (if c == 41 then Some ParenClose
    else (if c == 91 then Some BracketOpen else (if c == 93 then Some BracketClose
    else (if c == 123 then Some CurlyOpen else (if c == 125 then Some CurlyClose
    else (if c == 58 then Some Colon else (if c == 61 then Some Equals
    else (if c == 64 then Some At else (if c == 124 then Some Pipe else None)))))))))))

-- a point, of three that begin at first
unfoldable pub point : SourcePosition → Place → Result Place Refusal
point first p = point_at p.at p.rest
  where
    point_at : SourcePosition → List ℕ → Result Place Refusal
    point_at at [] = refused UnexpectedEndOfFile at
    point_at at (c ∷ cs) = if c == 46 then Ok (record { at = step at c; rest = cs })
        else refused (UnexpectedCharacter 46) first

unfoldable pub ellipsis : Place → Result (Token × Place) Refusal
ellipsis p = do
  a ← point p.at p
  b ← point p.at a
  c ← point p.at b
  Ok (Ellipsis, c)

-- the name that begins at p, with its first character before q
unfoldable pub name_from : Place → Place → Token × Place
name_from p q = let end = past class.NameContinue q.at q.rest in
    (Name (encode_utf8_all (between p.rest end.rest)), end)

abbrev pub punctuated : Option Token → ℕ → SourcePosition → Place → Result (Token × Place) Refusal
punctuated None c at q = refused (UnknownCharacter c) at
punctuated (Some t) c at q = Ok (t, q)

-- the token that begins here
unfoldable pub token : Place → Result (Token × Place) Refusal
token p = token_at p.rest
  where
    token_at : List ℕ → Result (Token × Place) Refusal
    token_at [] = Ok (EndOfFile, p)
    token_at (c ∷ cs) =
        if is_in class.NameStart c then Ok (name_from p (record { at = step p.at c; rest = cs }))
        else (if is_ascii_digit c || c == 45 then number p
        else (if c == 46 then ellipsis p
        else (if c == 34 then string (record { at = step p.at c; rest = cs })
        else punctuated (punctuator_of c) c p.at (record { at = step p.at c; rest = cs }))))

-- ---- a whole text

-- the place behind what is ignored; is_comment: a comment goes on here
abbrev pub ahead_from : Bool → SourcePosition → List ℕ → Place
ahead_from is_comment at [] = record { at = at; rest = [] }
ahead_from is_comment at (c ∷ cs) =
    let goes_on = (is_comment && is_in class.Comment c) || c == 35 in
    if goes_on
    || is_in class.Ignored c then ahead_from goes_on (step at c) cs
    else record { at = at; rest = c ∷ cs }

-- the place behind what is ignored (2.1.7 Ignored Tokens)
unfoldable pub ahead : Place → Place
ahead p = ahead_from false p.at p.rest

-- a token and its part of the text
abbrev pub Located : Type 0
Located = Spanning Token Span

-- the next token, and the place behind it
unfoldable pub cut : Place → Result (Located × Place) Refusal
cut p = token (ahead p)
    >>= (λ r. Ok (record { item = r.0; span = record { start = (ahead p).at; end = r.1.at } }, r.1))

-- the end of the text
abbrev pub is_end : Token → Bool
is_end EndOfFile = true
is_end _ = false

-- the tokens before the end of the text, from one place to another
abbrev pub Runs : Place → List Located → Place → Type 0
Runs p [] q = p ≡ q
Runs p (t ∷ ts) q = (r : Place) × (cut p ≡ Ok (t, r)) × (is_end t.item ≡ false) × Runs r ts q

-- the tokens of a text; the end is the last of them and no other
pub record Tokens (text : List ℕ) (ts : List Located) : Type 0 where
  pub front : List Located
  pub last : Located
  pub is : ts ≡ front ++ last ∷ []
  pub before : Place
  pub after : Place
  pub runs : Runs (start_of text) front before
  pub ends : cut before ≡ Ok (last, after)
  pub end : is_end last.item ≡ true

-- the first lexical fault of a text: tokens, and then what begins none
pub record FirstFault (text : List ℕ) (e : Refusal) : Type 0 where
  pub front : List Located
  pub before : Place
  pub runs : Runs (start_of text) front before
  pub refuses : cut before ≡ Err e
