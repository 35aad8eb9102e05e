-- What follows from a text's division by the grammar.
use Rattle.std.proofs.Common.{◌≡◌, inl, inr, ◌≤◌, ◌<◌, ◌+◌, ◌-◌, ℕ, false, List, [], ◌∷◌, ◌++◌, length, take, drop, map, sym, subst, ap, ◌∙◌, refl, append_assoc, arith, length-append, slice_range, encode_utf8_all}
use Rattle.std.proofs.Math.Seq.{take-append_seam, drop-append_seam}
use Rattle.graphql_text.specs.declared.position.SourcePosition.{SourcePosition}
use Rattle.graphql_text.specs.declared.token.Token.{Token}
use Rattle.graphql_text.specs.declared.token.Token.TheVariants.{Name, Scalar, ExclamationMark, Dollar, ParenOpen, ParenClose, BracketOpen, BracketClose, CurlyOpen, CurlyClose, Ellipsis, Colon, Equals, At, Pipe, EndOfFile}
use Rattle.graphql_text.specs.declared.token.ScalarToken.TheVariants.{String, Float, Int}
use Rattle.graphql_text.specs.Position.{position_of, position_at}
use Rattle.graphql_text.specs.Tokens.{Located, is_end}
use Rattle.graphql_text.specs.Grammar.{IsName, IsWhole, IsInteger, Spells, Heads, Divides, IsDivided}
use Rattle.graphql_lexer.specs.Laws.{FewTokens, InOrder, SpansInOrder, Every, PlacesArePositions, FaultIsPosition, slice_of, SlicesSpell, SourcesAreSlices, TokensAreWide, TokensInALine, placed, DifferInPlaces}
use lib.Utf8.{encode}
use Rattle.std.proofs.lemmas.Str.{encodes-append}
use Rattle.graphql_text.specs.Spelling.{source_of}
use Rattle.graphql_lexer.proofs.SoundTexts.{heads_text, divides_text}
use Rattle.graphql_lexer.proofs.LineFeeds.{line_feeds, line_feeds_behind, spelled_in_a_line}

-- ---- how many tokens

whole_some : (cs : List ℕ) → IsWhole cs → 0 < length cs
whole_some [] (inl e) = absurd (cc)
whole_some [] (inr d) = absurd d.0
whole_some (c ∷ cs) w = omega arith

integer_some : (cs : List ℕ) → IsInteger cs → 0 < length cs
integer_some cs i = let w = whole_some i.whole i.whole_is in omega (arith, ap length i.is, length-append i.sign i.whole)

name_some : (cs : List ℕ) → IsName cs → 0 < length cs
name_some [] n = absurd n
name_some (c ∷ cs) n = omega arith

-- a token is spelled by some character, but for the end of the text
pub spelled_some : (t : Token) (cs : List ℕ) → Spells t cs → is_end t ≡ false → 0 < length cs
spelled_some (Name s) cs h e = name_some cs h.0
spelled_some (Scalar (Int s)) cs h e = integer_some cs h.0
spelled_some (Scalar (Float s)) cs h e =
    let f = h.0 in let w = integer_some f.integer f.integer_is in omega (arith, ap length f.is, length-append f.integer (f.fraction ++ f.exponent))
spelled_some (Scalar (String s)) cs h e = let q = h.1 in omega (arith, ap length q.is)
spelled_some ExclamationMark cs h e = omega (arith, ap length h)
spelled_some Dollar cs h e = omega (arith, ap length h)
spelled_some ParenOpen cs h e = omega (arith, ap length h)
spelled_some ParenClose cs h e = omega (arith, ap length h)
spelled_some BracketOpen cs h e = omega (arith, ap length h)
spelled_some BracketClose cs h e = omega (arith, ap length h)
spelled_some CurlyOpen cs h e = omega (arith, ap length h)
spelled_some CurlyClose cs h e = omega (arith, ap length h)
spelled_some Ellipsis cs h e = omega (arith, ap length h)
spelled_some Colon cs h e = omega (arith, ap length h)
spelled_some Equals cs h e = omega (arith, ap length h)
spelled_some At cs h e = omega (arith, ap length h)
spelled_some Pipe cs h e = omega (arith, ap length h)
spelled_some EndOfFile cs h e = absurd (cc)

divides_few : (before rest : List ℕ) (ts : List Located) (after behind : List ℕ) → Divides before rest ts after behind → length ts + length behind ≤ length rest
divides_few before rest [] after behind d = omega (arith, ap length d.1)
divides_few before rest (t ∷ ts) after behind (middle, more, h, goes, d) =
    let some = spelled_some t.item h.own h.spells goes in
    let others = divides_few middle more ts after behind d in
    omega (arith, ap length h.is, length-append h.gap (h.own ++ more), length-append h.own more)

pub few_tokens : FewTokens
few_tokens text ts d =
    let few = divides_few [] text d.front d.before d.rest d.divides in
    omega (arith, ap length d.is, length-append d.front (d.last ∷ []))

-- ---- order

order_more : (before rest : List ℕ) (ts : List Located) (after behind : List ℕ) (others : List Located) (to : ℕ) → Divides before rest ts after behind → InOrder (length after) others to → InOrder (length before) (ts ++ others) to
order_more before rest [] after behind others to d o = let P : List ℕ → Type 0 = λ z. InOrder (length z) others to in subst P (sym d.0) o
order_more before rest (t ∷ ts) after behind others to (middle, more, h, goes, d) o =
    let start : t.span.start.index ≡ length (before ++ h.gap) = ap (λ p. p.index) h.start in
    let end : t.span.end.index ≡ length middle = ap (λ p. p.index) h.end in
    let P : ℕ → Type 0 = λ n. InOrder n (ts ++ others) to in
    let wide = ap length h.after_is ∙ length-append (before ++ h.gap) h.own in (
      omega (arith, length-append before h.gap),
      omega (arith, wide),
      λ goes_on. omega (arith, wide, spelled_some t.item h.own h.spells goes_on),
      subst P (sym end) (order_more middle more ts after behind others to d o),
    )

pub spans_in_order : SpansInOrder
spans_in_order text ts d =
    let h = d.heads in
    let start : d.last.span.start.index ≡ length (d.before ++ h.gap) = ap (λ p. p.index) h.start in
    let end : d.last.span.end.index ≡ length text = ap (λ p. p.index) h.end in
    let wide = ap length h.after_is ∙ length-append (d.before ++ h.gap) h.own in
    let last : InOrder (length d.before) (d.last ∷ []) (length text) = (
      omega (arith, length-append d.before h.gap),
      omega (arith, wide),
      λ goes_on. omega (arith, wide, spelled_some d.last.item h.own h.spells goes_on),
      omega arith,
    ) in
    let P : List Located → Type 0 = λ z. InOrder 0 z (length text) in
    subst P (sym d.is) (order_more [] text d.front d.before d.rest (d.last ∷ []) (length text) d.divides last)

-- ---- each token

every-append : (P : Located → Type 0) (ts us : List Located) → Every P ts → Every P us → Every P (ts ++ us)
every-append P [] us a b = b
every-append P (t ∷ ts) us a b = (a.0, every-append P ts us a.1 b)

-- what holds of a token wherever it heads what is left of the text
abbrev OfEach : List ℕ → (Located → Type 0) → Type 0
OfEach text P = (before rest : List ℕ) (t : Located) (after behind : List ℕ) → text ≡ before ++ rest → Heads before rest t after behind → P t

every_divides : (text : List ℕ) (P : Located → Type 0) → OfEach text P → (before rest : List ℕ) (ts : List Located) (after behind : List ℕ) → text ≡ before ++ rest → Divides before rest ts after behind → Every P ts
every_divides text P each before rest [] after behind e d = tt
every_divides text P each before rest (t ∷ ts) after behind e (middle, more, h, goes, d) =
    (each before rest t middle more e h, every_divides text P each middle more ts after behind (e ∙ heads_text before rest t middle more h) d)

every_divided : (text : List ℕ) (P : Located → Type 0) → OfEach text P → (ts : List Located) → IsDivided text ts → Every P ts
every_divided text P each ts d =
    let before = divides_text [] text d.front d.before d.rest d.divides in
    let Q : List Located → Type 0 = λ z. Every P z in
    subst Q (sym d.is) (every-append P d.front (d.last ∷ []) (every_divides text P each [] text d.front d.before d.rest refl d.divides) (each d.before d.rest d.last text [] before d.heads, tt))

-- ---- positions

position_at_front : (text front behind : List ℕ) (p : SourcePosition) → text ≡ front ++ behind → p ≡ position_of front → p ≡ position_at text p.index
position_at_front text front behind p e h =
    let i : p.index ≡ length front = ap (λ q. q.index) h in
    let t : take p.index text ≡ front = ap (λ n. take n text) i ∙ ap (take (length front)) e ∙ take-append_seam front behind in
    h ∙ ap position_of (sym t)

pub places_are_positions : PlacesArePositions
places_are_positions text ts d = every_divided text (λ t. (t.span.start ≡ position_at text t.span.start.index) × (t.span.end ≡ position_at text t.span.end.index)) each ts d
  where
    each : OfEach text (λ t. (t.span.start ≡ position_at text t.span.start.index) × (t.span.end ≡ position_at text t.span.end.index))
    each before rest t after behind e h =
        let start : text ≡ (before ++ h.gap) ++ (h.own ++ behind) = e ∙ ap (λ z. before ++ z) h.is ∙ sym (append_assoc before h.gap (h.own ++ behind)) in
        let end : text ≡ after ++ behind = e ∙ heads_text before rest t after behind h in
        (position_at_front text (before ++ h.gap) (h.own ++ behind) t.span.start start h.start, position_at_front text after behind t.span.end end h.end)

pub fault_is_position : FaultIsPosition
fault_is_position text e b =
    let front = (b.before ++ b.gap) ++ b.own in
    let whole : text ≡ front ++ b.behind = divides_text [] text b.front b.before b.rest b.divides ∙ ap (λ z. b.before ++ z) b.is ∙ sym (append_assoc b.before b.gap (b.own ++ b.behind)) ∙ sym (append_assoc (b.before ++ b.gap) b.own b.behind) in
    let index : e.span.start.index ≡ length front = ap (λ q. q.index) b.start in
    (position_at_front text front b.behind e.span.start whole b.start, b.end ∙ sym b.start, omega (arith, ap length whole, length-append front b.behind))

-- ---- slices

slice_front : (text before own behind : List ℕ) (i j : ℕ) → text ≡ before ++ (own ++ behind) → i ≡ length before → j ≡ length (before ++ own) → slice_range text i j ≡ own
slice_front text before own behind i j e a b =
    let n : j - i ≡ length own = omega (arith, length-append before own) in
    let d : drop i text ≡ own ++ behind = ap (λ z. drop z text) a ∙ ap (drop (length before)) e ∙ drop-append_seam before (own ++ behind) in
    ap (λ z. take z (drop i text)) n ∙ ap (take (length own)) d ∙ take-append_seam own behind

heads_slice : (text before rest : List ℕ) (t : Located) (after behind : List ℕ) → text ≡ before ++ rest → (h : Heads before rest t after behind) → slice_of text t ≡ h.own
heads_slice text before rest t after behind e h =
    let start : text ≡ (before ++ h.gap) ++ (h.own ++ behind) = e ∙ ap (λ z. before ++ z) h.is ∙ sym (append_assoc before h.gap (h.own ++ behind)) in
    let i : t.span.start.index ≡ length (before ++ h.gap) = ap (λ q. q.index) h.start in
    let j : t.span.end.index ≡ length ((before ++ h.gap) ++ h.own) = ap (λ q. q.index) h.end ∙ ap length h.after_is in
    slice_front text (before ++ h.gap) h.own behind t.span.start.index t.span.end.index start i j

pub slices_spell : SlicesSpell
slices_spell text ts d = every_divided text (λ t. Spells t.item (slice_of text t)) each ts d
  where
    each : OfEach text (λ t. Spells t.item (slice_of text t))
    each before rest t after behind e h = subst (Spells t.item) (sym (heads_slice text before rest t after behind e h)) h.spells

every_map : (P Q : Located → Type 0) → ((t : Located) → P t → Q t) → (ts : List Located) → Every P ts → Every Q ts
every_map P Q f [] e = tt
every_map P Q f (t ∷ ts) e = (f t e.0, every_map P Q f ts e.1)

pub source_is_slice : (t : Token) (cs : List ℕ) → Spells t cs → source_of t ≡ encode_utf8_all cs
unfolding encode
source_is_slice (Name s) cs h = h.1
source_is_slice (Scalar (Int s)) cs h = h.1
source_is_slice (Scalar (Float s)) cs h = h.1
source_is_slice (Scalar (String s)) cs (text, q, e) = ap (λ z. 34 ∷ (z ++ 34 ∷ [])) e ∙ ap (λ z. 34 ∷ z) (sym (encodes-append text (34 ∷ []))) ∙ sym (ap encode_utf8_all q.is)
source_is_slice ExclamationMark cs h = sym (ap encode_utf8_all h)
source_is_slice Dollar cs h = sym (ap encode_utf8_all h)
source_is_slice ParenOpen cs h = sym (ap encode_utf8_all h)
source_is_slice ParenClose cs h = sym (ap encode_utf8_all h)
source_is_slice BracketOpen cs h = sym (ap encode_utf8_all h)
source_is_slice BracketClose cs h = sym (ap encode_utf8_all h)
source_is_slice CurlyOpen cs h = sym (ap encode_utf8_all h)
source_is_slice CurlyClose cs h = sym (ap encode_utf8_all h)
source_is_slice Ellipsis cs h = sym (ap encode_utf8_all h)
source_is_slice Colon cs h = sym (ap encode_utf8_all h)
source_is_slice Equals cs h = sym (ap encode_utf8_all h)
source_is_slice At cs h = sym (ap encode_utf8_all h)
source_is_slice Pipe cs h = sym (ap encode_utf8_all h)
source_is_slice EndOfFile cs h = sym (ap encode_utf8_all h)

pub sources_are_slices : SourcesAreSlices
sources_are_slices text ts d = every_map (λ t. Spells t.item (slice_of text t)) (λ t. source_of t.item ≡ encode_utf8_all (slice_of text t)) (λ t h. source_is_slice t.item (slice_of text t) h) ts (slices_spell text ts d)

-- ---- widths and lines

pub tokens_are_wide : TokensAreWide
tokens_are_wide text ts d = every_divided text (λ t. is_end t.item ≡ false → t.span.start.index < t.span.end.index) each ts d
  where
    each : OfEach text (λ t. is_end t.item ≡ false → t.span.start.index < t.span.end.index)
    each before rest t after behind e h goes =
        let some = spelled_some t.item h.own h.spells goes in
        let start : t.span.start.index ≡ length (before ++ h.gap) = ap (λ p. p.index) h.start in
        let end : t.span.end.index ≡ length after = ap (λ p. p.index) h.end in
        omega (arith, start, end, ap length h.after_is, length-append (before ++ h.gap) h.own)

pub tokens_in_a_line : TokensInALine
tokens_in_a_line text ts d = every_divided text (λ t. t.span.end.line ≡ t.span.start.line) each ts d
  where
    each : OfEach text (λ t. t.span.end.line ≡ t.span.start.line)
    each before rest t after behind e h =
        ap (λ p. p.line) h.end ∙ ap line_feeds h.after_is ∙ line_feeds_behind (before ++ h.gap) h.own (spelled_in_a_line t.item h.own h.spells) ∙ sym (ap (λ p. p.line) h.start)

-- ---- the same tokens at other places

placed_again : (us : List Located) → us ≡ placed (map (λ t. t.item) us) (map (λ t. t.span) us)
placed_again [] = refl
placed_again (u ∷ us) = ap (λ z. u ∷ z) (placed_again us)

pub differ_in_places : DifferInPlaces
differ_in_places text other ts us d o same = placed_again us ∙ ap (λ z. placed z (map (λ t. t.span) us)) (sym same)
