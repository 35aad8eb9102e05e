-- What is cut from a text by a token's record is the token.
use Rattle.std.proofs.Common.{◌≡◌, ◌≤◌, ◌<◌, ◌+◌, ◌-◌, ◌^◌, ℕ, List, [], ◌∷◌, ◌++◌, length, take, drop, get_or, slice_range, sym, subst, ap, ◌∙◌, refl, append_assoc, arith, length-append, Result, Ok, Err, cond, true, false, Bool, ◌==◌}
use Rattle.std.specs.Str.{chars, IsUtf8, IsCharBoundary}
use Rattle.std.proofs.lemmas.List.Sums.{sum_by-cons}
use Rattle.std.proofs.lemmas.Str.{IsCharBoundary-after_ascii, IsCharBoundary-at_seam}
use Rattle.std.proofs.Math.Seq.{take-append_seam, drop-append_seam}
use lib.Utf8.{encodes}
use Rattle.graphql_text.specs.declared.position.SourcePosition.{SourcePosition}
use Rattle.graphql_lexer.specs.declared.token_record.TokenKind.{TokenKind}
use Rattle.graphql_lexer.specs.declared.token_record.TokenKind.TheVariants as k
use Rattle.graphql_lexer.specs.declared.token_record.TokenRecord.{TokenRecord}
use Rattle.graphql_text.specs.declared.token.Token.{Token}
use Rattle.graphql_text.specs.declared.token.Token.TheVariants as t
use Rattle.graphql_text.specs.declared.token.ScalarToken.TheVariants as s
use Rattle.graphql_text.specs.Position.{step}
use Rattle.graphql_text.specs.Reading.{Place, Refusal, IsTail, ◌>>=◌}
use Rattle.graphql_text.specs.Spelling.{source_of}
use Rattle.graphql_text.specs.Tokens.{token, cut, ahead}
use Rattle.graphql_text.specs.Grammar.{Spells, IsFault}
use Rattle.graphql_lexer.specs.Records.{kind_of, unquoted, token_from, text_at, span_of, token_of, IsQuoted, StandsIn}
use Rattle.graphql_lexer.proofs.Leading.{advance}
use Rattle.graphql_lexer.proofs.LineFeeds.{line_feeds, spelled_in_a_line}
use Rattle.graphql_lexer.proofs.TextLemmas.{text_split}
use Rattle.graphql_lexer.proofs.Readings.{Goes, DoneOrFails}
use Rattle.graphql_lexer.proofs.SoundTokens.{TokenRead, token_reads, ahead_reads}
use Rattle.graphql_lexer.proofs.DividedLaws.{source_is_slice}

-- ---- cutting

pub behind_quote : (text : List ℕ) → IsUtf8 text → IsQuoted text → IsCharBoundary text 1
behind_quote text u q = IsCharBoundary-after_ascii text 0 u (omega (arith, q.0)) (omega (arith, q.1))

-- ---- counting

no_feed_first : (c : ℕ) (cs : List ℕ) → line_feeds (c ∷ cs) ≡ 0 → ((c == 10) ≡ false) × (line_feeds cs ≡ 0)
no_feed_first c cs e = on (c == 10) refl
  where
    on : (b : Bool) → (c == 10) ≡ b → ((c == 10) ≡ false) × (line_feeds cs ≡ 0)
    on false h = (h, omega (arith, sum_by-cons (λ d. cond (d == 10) 1 0) c cs, ap {B = ℕ} (λ b. cond b 1 0) h, e))
    on true h = absurd (omega (arith, sum_by-cons (λ d. cond (d == 10) 1 0) c cs, ap {B = ℕ} (λ b. cond b 1 0) h, e))

-- characters without a line feed count one column each
pub advance_in_line : (p : SourcePosition) (cs : List ℕ) → line_feeds cs ≡ 0 → advance p cs ≡ record { index = p.index + length cs; line = p.line; column = p.column + length cs }
advance_in_line p [] e = (λ i. record { index = (let q : p.index ≡ p.index + 0 = omega arith in q) i; line = p.line; column = (let q : p.column ≡ p.column + 0 = omega arith in q) i })
advance_in_line p (c ∷ cs) e =
    let f = no_feed_first c cs e in
    let q : SourcePosition = record { index = p.index + 1; line = p.line; column = p.column + 1 } in
    let a : advance (step p c) cs ≡ advance q cs = ap (λ b. advance (cond b (record { index = p.index + 1; line = p.line + 1; column = 0 }) q) cs) f.0 in
    let i : p.index + 1 + length cs ≡ p.index + length (c ∷ cs) = omega arith in
    let j : p.column + 1 + length cs ≡ p.column + length (c ∷ cs) = omega arith in
    a ∙ advance_in_line q cs f.1 ∙ (λ z. record { index = i z; line = p.line; column = j z })

-- ---- a token from its source text

unquoted_is : (text : List ℕ) → unquoted (34 ∷ (text ++ 34 ∷ [])) ≡ text
unquoted_is text =
    let n : length (34 ∷ (text ++ 34 ∷ [])) - 1 - 1 ≡ length text = omega (arith, length-append text (34 ∷ [])) in
    ap (λ m. take m (text ++ 34 ∷ [])) n ∙ take-append_seam text (34 ∷ [])

pub token_again : (x : Token) → token_from (kind_of x) (source_of x) ≡ x
token_again (t.Name text) = refl
token_again (t.Scalar (s.String text)) = ap (λ z. t.Scalar (s.String z)) (unquoted_is text)
token_again (t.Scalar (s.Float text)) = refl
token_again (t.Scalar (s.Int text)) = refl
token_again t.ExclamationMark = refl
token_again t.Dollar = refl
token_again t.ParenOpen = refl
token_again t.ParenClose = refl
token_again t.BracketOpen = refl
token_again t.BracketClose = refl
token_again t.CurlyOpen = refl
token_again t.CurlyClose = refl
token_again t.Ellipsis = refl
token_again t.Colon = refl
token_again t.Equals = refl
token_again t.At = refl
token_again t.Pipe = refl
token_again t.EndOfFile = refl

get_past : (xs : List ℕ) (y : ℕ) → get_or (xs ++ y ∷ []) (length xs) 0 ≡ y
get_past [] y = refl
get_past (x ∷ xs) y = get_past xs y

quoted : (x : Token) → kind_of x ≡ k.String → IsQuoted (source_of x)
quoted (t.Scalar (s.String text)) e =
    let n : length (34 ∷ (text ++ 34 ∷ [])) - 1 ≡ length (34 ∷ text) = omega (arith, length-append text (34 ∷ [])) in
    (omega (arith, length-append text (34 ∷ [])), refl, ap (λ m. get_or (34 ∷ (text ++ 34 ∷ [])) m 0) n ∙ get_past (34 ∷ text) 34)
quoted (t.Name text) e = absurd (cc)
quoted (t.Scalar (s.Float text)) e = absurd (cc)
quoted (t.Scalar (s.Int text)) e = absurd (cc)
quoted t.ExclamationMark e = absurd (cc)
quoted t.Dollar e = absurd (cc)
quoted t.ParenOpen e = absurd (cc)
quoted t.ParenClose e = absurd (cc)
quoted t.BracketOpen e = absurd (cc)
quoted t.BracketClose e = absurd (cc)
quoted t.CurlyOpen e = absurd (cc)
quoted t.CurlyClose e = absurd (cc)
quoted t.Ellipsis e = absurd (cc)
quoted t.Colon e = absurd (cc)
quoted t.Equals e = absurd (cc)
quoted t.At e = absurd (cc)
quoted t.Pipe e = absurd (cc)
quoted t.EndOfFile e = absurd (cc)

-- what is cut as a string stands in quotes
pub quoted_at : (source : List ℕ) (r : TokenRecord) → StandsIn source r → r.kind ≡ k.String → IsQuoted (text_at source r)
quoted_at source r fits e =
    let is = fits.spells ∙ ap (λ (kind : TokenKind). source_of (token_from kind (text_at source r))) e in
    subst IsQuoted (sym is) (quoted (token_from k.String (text_at source r)) refl)

-- ---- the record of a token that was read

-- what is read at a place: these characters spell the token, and lead to that place
pub record Read (p : Place) (x : Token) (q : Place) : Type 0 where
  pub own : List ℕ
  pub goes : Goes p own q
  pub spells : Spells x own

read_of : (p : Place) (r : Result (Token × Place) Refusal) → DoneOrFails p (λ r. r.1) TokenRead IsFault r → (x : Token) (q : Place) → r ≡ Ok (x, q) → Read p x q
read_of p (Ok y) d x q e =
    let P : Token × Place → Type 0 = λ z. Read p z.0 z.1 in
    let same : y ≡ (x, q) = cc in
    subst P same (record { own = d.front; goes = d.goes; spells = d.good.0 })
read_of p (Err f) d x q e = absurd (cc)

pub token_read : (p q : Place) (x : Token) → token p ≡ Ok (x, q) → Read p x q
token_read p q x e = read_of p (token p) (token_reads p) x q e

-- it stands in one line
read_end : (p q : Place) (x : Token) (r : Read p x q) → q.at ≡ record { index = p.at.index + length r.own; line = p.at.line; column = p.at.column + length r.own }
read_end p q x r = r.goes.counts ∙ advance_in_line p.at r.own (spelled_in_a_line x r.own r.spells)

pub token_goes_on : (p q : Place) (x : Token) → token p ≡ Ok (x, q) → p.at.index ≤ q.at.index
token_goes_on p q x e = let is = ap (λ (z : SourcePosition). z.index) (read_end p q x (token_read p q x e)) in omega (arith, is)

-- three parts of a text, each of whole characters
pub record Parts (source start rest : List ℕ) (own : List ℕ) : Type 0 where
  pub front : List ℕ
  pub is : source ≡ front ++ start
  pub start_is : start ≡ encodes own ++ rest

slice_of_parts : (front own rest : List ℕ) (i j : ℕ) → i ≡ length front → j ≡ length own → slice_range (front ++ (own ++ rest)) i (i + j) ≡ own
slice_of_parts front own rest i j a b =
    let n : i + j - i ≡ length own = omega (arith, b) in
    let d : drop i (front ++ (own ++ rest)) ≡ own ++ rest = ap (λ z. drop z (front ++ (own ++ rest))) a ∙ drop-append_seam front (own ++ rest) in
    ap (λ z. take z (drop i (front ++ (own ++ rest)))) n ∙ ap (take (length own)) d ∙ take-append_seam own rest

module _ (source start rest own : List ℕ) (parts : Parts source start rest own) (offset len : ℕ) (offset_is : offset ≡ length source - length start) (len_is : len ≡ length start - length rest) where
  at_front : offset ≡ length parts.front
  at_front = omega (arith, offset_is, ap length parts.is, length-append parts.front start)

  as_long : len ≡ length (encodes own)
  as_long = omega (arith, len_is, ap length parts.start_is, length-append (encodes own) rest)

  whole : source ≡ parts.front ++ (encodes own ++ rest)
  whole = parts.is ∙ ap (λ z. parts.front ++ z) parts.start_is

  pub slice_is : slice_range source offset (offset + len) ≡ encodes own
  slice_is = ap (λ z. slice_range z offset (offset + len)) whole ∙ slice_of_parts parts.front (encodes own) rest offset len at_front as_long

  pub begins_at : IsUtf8 start → IsCharBoundary source offset
  begins_at u = subst (IsCharBoundary source) (sym at_front) (IsCharBoundary-at_seam source parts.front start parts.is u)

  pub ends_at : IsUtf8 rest → IsCharBoundary source (offset + len)
  ends_at u =
      let e : source ≡ (parts.front ++ encodes own) ++ rest = whole ∙ sym (append_assoc parts.front (encodes own) rest) in
      let n : length (parts.front ++ encodes own) ≡ offset + len = omega (arith, at_front, as_long, length-append parts.front (encodes own)) in
      subst (IsCharBoundary source) n (IsCharBoundary-at_seam source (parts.front ++ encodes own) rest e u)

module _ (source start rest : List ℕ) (at : SourcePosition) (q : SourcePosition) (x : Token) (us : IsUtf8 source) (ut : IsUtf8 start) (ur : IsUtf8 rest) (tail : IsTail (chars source) (chars start))
    (read : Read (record { at = at; rest = chars start }) x (record { at = q; rest = chars rest })) (r : TokenRecord)
    (kind_is : r.kind ≡ kind_of x) (offset_is : r.offset ≡ length source - length start) (len_is : r.len ≡ length start - length rest) (width_is : r.width ≡ q.index - at.index) (start_is : r.start ≡ at) where
  abbrev own : List ℕ
  own = read.own

  start_split : start ≡ encodes own ++ rest
  start_split = text_split start rest ut ur (record { front = own; is = read.goes.is })

  parts : Parts source start rest own
  parts = record { front = encodes tail.front; is = text_split source start us ut tail; start_is = start_split }

  text_is : text_at source r ≡ source_of x
  text_is = slice_is source start rest own parts r.offset r.len offset_is len_is ∙ sym (source_is_slice x own read.spells)

  end_at : q ≡ record { index = at.index + length own; line = at.line; column = at.column + length own }
  end_at = read_end (record { at = at; rest = chars start }) (record { at = q; rest = chars rest }) x read

  wide : r.width ≡ length own
  wide = let e = ap (λ (p : SourcePosition). p.index) end_at in omega (arith, e, width_is)

  end_is : (span_of r).end ≡ q
  end_is = (λ i. record { index = (start_is i).index + wide i; line = (start_is i).line; column = (start_is i).column + wide i }) ∙ sym end_at

  item_is : token_from r.kind (text_at source r) ≡ x
  item_is = (λ i. token_from (kind_is i) (text_is i)) ∙ token_again x

  pub record_is : token_of source r ≡ record { item = x; span = record { start = at; end = q } }
  unfolding token_of
  record_is = λ i. record { item = item_is i; span = record { start = start_is i; end = end_is i } }

  pub record_fits : q.index < 2 ^ 64 → at.column ≤ at.index → StandsIn source r
  record_fits room column =
      record {
        begins = begins_at source start rest own parts r.offset r.len offset_is len_is ut;
        ends = ends_at source start rest own parts r.offset r.len offset_is len_is ur;
        room = (let e = ap (λ (p : SourcePosition). p.index) end_is in omega (arith, e, room), subst (λ (p : SourcePosition). p.column ≤ p.index) (sym start_is) column);
        spells = text_is ∙ ap source_of (sym item_is);
      }

-- ---- the places of a token that is cut

abbrev pub tail_ahead : (p : Place) → IsTail p.rest (ahead p).rest
tail_ahead p = let g = ahead_reads p in record { front = _; is = g.goes.is }

pub tail_token : (p q : Place) (x : Token) → token p ≡ Ok (x, q) → IsTail p.rest q.rest
tail_token p q x e = let r = token_read p q x e in record { front = r.own; is = r.goes.is }

pub cut_is : (p a q : Place) (x : Token) → a ≡ ahead p → token a ≡ Ok (x, q) → cut p ≡ Ok (record { item = x; span = record { start = a.at; end = q.at } }, q)
unfolding cut
cut_is p a q x e is =
    sym (ap (λ (z : Place). token z >>= (λ r. Ok (record { item = r.0; span = record { start = z.at; end = r.1.at } }, r.1))) e)
    ∙ ap (λ z. z >>= (λ r. Ok (record { item = r.0; span = record { start = a.at; end = r.1.at } }, r.1))) is
