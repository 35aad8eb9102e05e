-- What a cursor answers, as the steps of productions say it.
use Rattle.std.proofs.Common.{◌≡◌, ◌≢◌, ◌<◌, ◌≤◌, ◌+◌, ◌-◌, ℕ, zero, suc, Option, Bool, true, false, if◌then◌else◌, List, [], ◌∷◌, ◌++◌, length, length-drop, drop, slice_get, codes, Some, None, Ok, Err, refl, sym, ap, ◌∙◌, subst, ◌⊎◌, inl, inr, arith}
use Rattle.std.specs.Option.{option_map}
use Rattle.std.specs.Str.{bytes_eq}
use denote.Enum.Bare.{same_true}
use Rattle.std.proofs.lemmas.List.{drop_all, same_from_push}
use Rattle.graphql_text.specs.declared.position.Span.{Span}
use Rattle.graphql_text.specs.declared.position.SourcePosition.{SourcePosition}
use Rattle.graphql_text.specs.declared.token.Token.{Token}
use Rattle.graphql_text.specs.declared.token.Token.TheVariants as t
use Rattle.graphql_text.specs.declared.parse_error.ParseError.{ParseError}
use Rattle.graphql_text.specs.declared.parse_error.ParseError.TheVariants.{Memory, UnexpectedToken, UnexpectedEndOfFile}
use Rattle.graphql_text.specs.Position.{origin}
use Rattle.graphql_text.specs.Spelling.{source_of}
use Rattle.graphql_text.specs.Tokens.{is_end}
use Rattle.graphql_text.specs.Grammar.{Divides, IsDivided}
use Rattle.graphql_lexer.specs.Records.{Recorded, IsRecorded}
use Rattle.graphql_grammar.specs.declared.kind.Kind.{Kind}
use Rattle.graphql_grammar.specs.declared.kind.Kind.TheVariants as k
use Rattle.graphql_grammar.specs.contracts.kind.Kind.{the_type}
use Rattle.graphql_grammar.specs.Kinds.{Kinds, kind, word_kind, only, names, fragment_names}
use Rattle.graphql_grammar.specs.Input.{Located, Input, Fault, StandsFor, first, peek, peek_kind, end_after, left, next, unexpected, refusal}
use Rattle.graphql_grammar.specs.Steps.{sees, token, name_of, name, name_in}
use Rattle.graphql_grammar.specs.Cursor.{NoEnd, IsStart, after, start_of}

-- ---- what stands next

first_some : (f : Span) (xs : List Located) (x : Located) → slice_get xs 0 ≡ Some x → first f xs ≡ x
first_some f [] x e = absurd (cc)
first_some f (y ∷ ys) x e = cc

first_none : (f : Span) (xs : List Located) → slice_get xs 0 ≡ None → first f xs ≡ record { item = t.EndOfFile; span = f }
first_none f [] e = refl
first_none f (y ∷ ys) e = absurd (cc)

pub peek_some : (i : Input) (x : Located) → slice_get i.ahead 0 ≡ Some x → peek i ≡ x
unfolding peek
peek_some i x e = first_some i.finish i.ahead x e

pub peek_none : (i : Input) → slice_get i.ahead 0 ≡ None → peek i ≡ record { item = t.EndOfFile; span = i.finish }
unfolding peek
peek_none i e = first_none i.finish i.ahead e

pub kind_none : (i : Input) → slice_get i.ahead 0 ≡ None → peek_kind i ≡ k.EndOfFile
unfolding peek_kind
kind_none i e = ap (λ p. kind p.item) (peek_none i e)

-- ---- behind the next token

pub next_past : (xs : List Located) (n : ℕ) (f : Span) (e : SourcePosition) → length xs ≤ n
    → record { ahead = drop n xs; finish = f; end = e } ≡ next (record { ahead = drop n xs; finish = f; end = e })
unfolding next
next_past xs n f e h =
    let none = drop_all n xs h in
    ap (λ zs. record { ahead = zs; finish = f; end = e }) none ∙ sym (ap (λ zs. next (record { ahead = zs; finish = f; end = e })) none)

-- ---- what stands next, of the tokens that were recorded

got_drop : (xs : List Located) (n : ℕ) → slice_get (drop n xs) 0 ≡ slice_get xs n
got_drop [] zero = refl
got_drop [] (suc n) = refl
got_drop (x ∷ xs) zero = refl
got_drop (x ∷ xs) (suc n) = got_drop xs n

-- what is told of the token at an index is told of the one that stands next behind so many others
pub next_is : {A : Type 0} (told : Located → A) (i : Input) (lent own : Recorded) (n : ℕ) (e : SourcePosition) (got : Option A)
    → record { ahead = drop n own.tokens; finish = own.finish; end = e } ≡ i → lent ≡ own → got ≡ option_map told (slice_get lent.tokens n)
    → option_map told (slice_get i.ahead 0) ≡ got
next_is told i lent own n e got view same is =
    ap (λ (j : Input). option_map told (slice_get j.ahead 0)) (sym view) ∙ ap (option_map told) (got_drop own.tokens n)
    ∙ sym (is ∙ ap (λ (r : Recorded). option_map told (slice_get r.tokens n)) same)

-- the token at an index is the one that stands next behind so many others
pub next_token_is : (i : Input) (lent own : Recorded) (n : ℕ) (e : SourcePosition) (got : Option Located)
    → record { ahead = drop n own.tokens; finish = own.finish; end = e } ≡ i → lent ≡ own → got ≡ slice_get lent.tokens n → got ≡ slice_get i.ahead 0
next_token_is i lent own n e got view same is =
    is ∙ ap (λ (r : Recorded). slice_get r.tokens n) same ∙ sym (got_drop own.tokens n) ∙ ap (λ (j : Input). slice_get j.ahead 0) view

-- where the next token ends
pub end_got : (i : Input) (p : SourcePosition) → option_map (λ (t : Located). t.span.end) (slice_get i.ahead 0) ≡ Some p → p ≡ end_after i.end i.ahead
end_got i p h = ends i.ahead h
  where
    ends : (xs : List Located) → option_map (λ (t : Located). t.span.end) (slice_get xs 0) ≡ Some p → p ≡ end_after i.end xs
    ends [] h = absurd (cc)
    ends (x ∷ xs) h = let is : x.span.end ≡ p = cc in sym is

pub end_none : (i : Input) → option_map (λ (t : Located). t.span.end) (slice_get i.ahead 0) ≡ None → i.end ≡ end_after i.end i.ahead
end_none i h = ends i.ahead h
  where
    ends : (xs : List Located) → option_map (λ (t : Located). t.span.end) (slice_get xs 0) ≡ None → i.end ≡ end_after i.end xs
    ends [] h = refl
    ends (x ∷ xs) h = absurd (cc)

-- behind the next token
pub moved : (xs : List Located) (n : ℕ) (f : Span) (e : SourcePosition) → record { ahead = drop (n + 1) xs; finish = f; end = end_after e (drop n xs) } ≡ next (record { ahead = drop n xs; finish = f; end = e })
unfolding next
moved [] zero f e = refl
moved [] (suc n) f e =
    let more : suc n + 1 ≡ suc (n + 1) = omega arith in
    ap (λ m. record { ahead = drop {A = Located} m []; finish = f; end = e }) more
moved (x ∷ xs) zero f e = refl
moved (x ∷ xs) (suc n) f e =
    let more : suc n + 1 ≡ suc (n + 1) = omega arith in
    ap (λ m. record { ahead = drop m (x ∷ xs); finish = f; end = end_after e (drop n xs) }) more ∙ moved xs n f e

item_first : (f : Span) (xs : List Located) (x : Token) → option_map (λ (t : Located). t.item) (slice_get xs 0) ≡ Some x → (first f xs).item ≡ x
item_first f [] x h = absurd (cc)
item_first f (y ∷ ys) x h = cc

pub item_got : (i : Input) (x : Token) → option_map (λ (t : Located). t.item) (slice_get i.ahead 0) ≡ Some x → (peek i).item ≡ x
unfolding peek
item_got i x h = item_first i.finish i.ahead x h

pub kind_got : (i : Input) (x : Token) → option_map (λ (t : Located). t.item) (slice_get i.ahead 0) ≡ Some x → peek_kind i ≡ kind x
unfolding peek_kind
kind_got i x h = ap kind (item_got i x h)

start_first : (f : Span) (xs : List Located) (p : SourcePosition) → option_map (λ (t : Located). t.span.start) (slice_get xs 0) ≡ Some p → (first f xs).span.start ≡ p
start_first f [] p h = absurd (cc)
start_first f (y ∷ ys) p h = cc

pub start_got : (i : Input) (p : SourcePosition) → option_map (λ (t : Located). t.span.start) (slice_get i.ahead 0) ≡ Some p → (peek i).span.start ≡ p
unfolding peek
start_got i p h = start_first i.finish i.ahead p h

pub none_ahead : {A : Type 0} (g : Located → A) (o : Option Located) → option_map g o ≡ None → o ≡ None
none_ahead g None h = refl
none_ahead g (Some x) h = absurd (cc)

-- ---- choices

pub after_yes : (kinds : Kinds) (i : Input) → sees kinds i ≡ true → after kinds i ≡ next i
unfolding after
after_yes kinds i e = ap (λ b. if b then next i else i) e

pub after_no : (kinds : Kinds) (i : Input) → sees kinds i ≡ false → after kinds i ≡ i
unfolding after
after_no kinds i e = ap (λ b. if b then next i else i) e

pub token_yes : {A : Type 0} (kinds : Kinds) (meaning : Token → A) (i : Input) → sees kinds i ≡ true → token kinds meaning i ≡ Ok (meaning (peek i).item, next i)
unfolding token
token_yes kinds meaning i e = ap (λ b. if b then Ok (meaning (peek i).item, next i) else Err (refusal i)) e

pub token_no : {A : Type 0} (kinds : Kinds) (meaning : Token → A) (i : Input) → sees kinds i ≡ false → token kinds meaning i ≡ Err (refusal i)
unfolding token
token_no kinds meaning i e = ap (λ b. if b then Ok (meaning (peek i).item, next i) else Err (refusal i)) e

-- ---- refusals

unexpected_token : (x : Token) → x ≢ t.EndOfFile → unexpected x ≡ UnexpectedToken (source_of x)
unexpected_token (t.Name n) h = refl
unexpected_token (t.Scalar s) h = refl
unexpected_token t.ExclamationMark h = refl
unexpected_token t.Dollar h = refl
unexpected_token t.ParenOpen h = refl
unexpected_token t.ParenClose h = refl
unexpected_token t.BracketOpen h = refl
unexpected_token t.BracketClose h = refl
unexpected_token t.CurlyOpen h = refl
unexpected_token t.CurlyClose h = refl
unexpected_token t.Ellipsis h = refl
unexpected_token t.Colon h = refl
unexpected_token t.Equals h = refl
unexpected_token t.At h = refl
unexpected_token t.Pipe h = refl
unexpected_token t.EndOfFile h = absurd (h refl)

refused : (i : Input) (p : Located) → p ≡ peek i → refusal i ≡ record { item = unexpected p.item; span = p.span }
unfolding refusal
refused i p e = sym (ap (λ (q : Located). record { item = unexpected q.item; span = q.span }) e)

pub refused_end : (i : Input) (p : Located) → p ≡ peek i → p.item ≡ t.EndOfFile → refusal i ≡ record { item = UnexpectedEndOfFile; span = p.span }
refused_end i p e is = refused i p e ∙ ap (λ (x : Token). record { item = unexpected x; span = p.span }) is

pub refused_token : (i : Input) (p : Located) → p ≡ peek i → p.item ≢ t.EndOfFile → refusal i ≡ record { item = UnexpectedToken (source_of p.item); span = p.span }
refused_token i p e is = refused i p e ∙ ap (λ (x : ParseError). record { item = x; span = p.span }) (unexpected_token p.item is)

-- ---- fewer

-- where something other than the end of the text stands next, a token is left
fewer_first : (f : Span) (xs : List Located) → (first f xs).item ≢ t.EndOfFile → length (drop 1 xs) < length xs
fewer_first f [] h = absurd (h refl)
fewer_first f (x ∷ xs) h = omega arith

pub fewer_item : (i : Input) → (peek i).item ≢ t.EndOfFile → left (next i) < left i
unfolding peek next
fewer_item i h = fewer_first i.finish i.ahead h

pub fewer_kind : (i : Input) (w : Kind) → sees (only w) i ≡ true → w ≢ k.EndOfFile → left (next i) < left i
unfolding sees peek_kind
fewer_kind i w e h = fewer_item i (λ is. h (sym (same_true the_type tt (kind (peek i).item) w e) ∙ ap kind is))

pub fewer_name : (i : Input) (n : List ℕ) → (peek i).item ≡ t.Name n → left (next i) < left i
fewer_name i n e = fewer_item i (λ is. let no : t.Name n ≡ t.EndOfFile = sym e ∙ is in cc)

-- at the end of the text nothing is fewer, and before it one
pub left_next : (i : Input) → left (next i) ≡ left i - 1
unfolding next
left_next i = length-drop 1 i.ahead

-- ---- names

names_if : (b : Bool) (v w : Kind) → names v ≡ true → names w ≡ true → names (if b then v else w) ≡ true
names_if true v w e f = e
names_if false v w e f = f

-- the kind of a name is one of names
pub word_is_name : (n : List ℕ) → names (word_kind n) ≡ true
word_is_name n = names_if (bytes_eq n (codes "on")) _ _ refl (names_if (bytes_eq n (codes "query")) _ _ refl (names_if (bytes_eq n (codes "mutation")) _ _ refl (names_if (bytes_eq n (codes "subscription")) _ _ refl
    (names_if (bytes_eq n (codes "fragment")) _ _ refl (names_if (bytes_eq n (codes "true")) _ _ refl (names_if (bytes_eq n (codes "false")) _ _ refl (names_if (bytes_eq n (codes "null")) _ _ refl refl)))))))

names_token : (x : Token) → ((n : List ℕ) → x ≢ t.Name n) → names (kind x) ≡ false
names_token (t.Name n) h = absurd (h n refl)
names_token (t.Scalar s) h = refl
names_token t.ExclamationMark h = refl
names_token t.Dollar h = refl
names_token t.ParenOpen h = refl
names_token t.ParenClose h = refl
names_token t.BracketOpen h = refl
names_token t.BracketClose h = refl
names_token t.CurlyOpen h = refl
names_token t.CurlyClose h = refl
names_token t.Ellipsis h = refl
names_token t.Colon h = refl
names_token t.Equals h = refl
names_token t.At h = refl
names_token t.Pipe h = refl
names_token t.EndOfFile h = refl

pub name_read : (i : Input) (n : List ℕ) → (peek i).item ≡ t.Name n → name i ≡ Ok (n, next i)
unfolding sees peek_kind
name_read i n e =
    let seen : sees names i ≡ true = ap (λ (x : Token). names (kind x)) e ∙ word_is_name n in
    token_yes names name_of i seen ∙ ap (λ (x : Token). Ok (name_of x, next i)) e

pub name_refused : (i : Input) → ((n : List ℕ) → (peek i).item ≢ t.Name n) → name i ≡ Err (refusal i)
unfolding sees peek_kind
name_refused i h = token_no names name_of i (names_token (peek i).item h)

pub fragment_names_same : (w : Kind) → w ≢ k.On → fragment_names w ≡ names w
fragment_names_same k.On h = absurd (h refl)
fragment_names_same k.Name h = refl
fragment_names_same k.Query h = refl
fragment_names_same k.Mutation h = refl
fragment_names_same k.Subscription h = refl
fragment_names_same k.Fragment h = refl
fragment_names_same k.True h = refl
fragment_names_same k.False h = refl
fragment_names_same k.Null h = refl
fragment_names_same k.Scalar h = refl
fragment_names_same k.ExclamationMark h = refl
fragment_names_same k.Dollar h = refl
fragment_names_same k.ParenOpen h = refl
fragment_names_same k.ParenClose h = refl
fragment_names_same k.BracketOpen h = refl
fragment_names_same k.BracketClose h = refl
fragment_names_same k.CurlyOpen h = refl
fragment_names_same k.CurlyClose h = refl
fragment_names_same k.Ellipsis h = refl
fragment_names_same k.Colon h = refl
fragment_names_same k.Equals h = refl
fragment_names_same k.At h = refl
fragment_names_same k.Pipe h = refl
fragment_names_same k.EndOfFile h = refl

pub fragment_name_refused : (i : Input) → peek_kind i ≡ k.On → name_in fragment_names i ≡ Err (refusal i)
unfolding sees
fragment_name_refused i e = token_no fragment_names name_of i (ap fragment_names e)

pub fragment_name_same : (i : Input) → peek_kind i ≢ k.On → name_in fragment_names i ≡ name i
unfolding sees token
fragment_name_same i h = ap (λ b. if b then Ok (name_of (peek i).item, next i) else Err (refusal i)) (fragment_names_same (peek_kind i) h)

-- ---- the start of a text

divides_no_end : (before rest : List ℕ) (ts : List Located) (after behind : List ℕ) → Divides before rest ts after behind → NoEnd ts
divides_no_end before rest [] after behind d = tt
divides_no_end before rest (x ∷ xs) after behind (middle, more, h, goes, d) = (goes, divides_no_end middle more xs after behind d)

no_end : (w : Kind) → names w ≡ true → only k.EndOfFile w ≡ false
no_end k.EndOfFile h = cc
no_end k.Name h = refl
no_end k.On h = refl
no_end k.Query h = refl
no_end k.Mutation h = refl
no_end k.Subscription h = refl
no_end k.Fragment h = refl
no_end k.True h = refl
no_end k.False h = refl
no_end k.Null h = refl
no_end w h = absurd (cc)

-- a token is the end, or it is neither said to be nor of its kind
pub end_or_not : (x : Token) → (x ≡ t.EndOfFile) ⊎ ((is_end x ≡ false) × (only k.EndOfFile (kind x) ≡ false))
end_or_not t.EndOfFile = inl refl
end_or_not (t.Name n) = inr (refl, no_end (word_kind n) (word_is_name n))
end_or_not (t.Scalar s) = inr (refl, refl)
end_or_not t.ExclamationMark = inr (refl, refl)
end_or_not t.Dollar = inr (refl, refl)
end_or_not t.ParenOpen = inr (refl, refl)
end_or_not t.ParenClose = inr (refl, refl)
end_or_not t.BracketOpen = inr (refl, refl)
end_or_not t.BracketClose = inr (refl, refl)
end_or_not t.CurlyOpen = inr (refl, refl)
end_or_not t.CurlyClose = inr (refl, refl)
end_or_not t.Ellipsis = inr (refl, refl)
end_or_not t.Colon = inr (refl, refl)
end_or_not t.Equals = inr (refl, refl)
end_or_not t.At = inr (refl, refl)
end_or_not t.Pipe = inr (refl, refl)

item_of_end : (x : Token) → is_end x ≡ true → x ≡ t.EndOfFile
item_of_end x e = elim (end_or_not x) [ inl h ↦ h | inr h ↦ absurd (let q = sym h.0 ∙ e in cc) ]

-- all tokens before the last
pub starts : (text : List ℕ) (ts front : List Located) (last : Located) → IsDivided text ts → ts ≡ front ++ last ∷ []
    → IsStart text (record { ahead = front; finish = last.span; end = origin })
starts text ts front last d e =
    let parts = same_from_push d.front front d.last last (sym d.is ∙ e) in
    let P : List Located → Type 0 = NoEnd in
    let is_last : is_end last.item ≡ true = ap (λ (x : Located). is_end x.item) (sym parts.1) ∙ d.end in
    let whole : ts ≡ front ++ record { item = t.EndOfFile; span = last.span } ∷ [] = e ∙ ap (λ (x : Token). front ++ record { item = x; span = last.span } ∷ []) (item_of_end last.item is_last) in
    let D : List Located → Type 0 = IsDivided text in
    record { divided = subst D whole d; no_end = subst P parts.0 (divides_no_end [] text d.front d.before d.rest d.divides); end = refl }

-- the start of a text, by the records of its tokens
pub starts_recorded : (text : List ℕ) (r : Recorded) → IsRecorded text r → IsStart text (start_of r)
starts_recorded text r d = starts text (r.tokens ++ record { item = t.EndOfFile; span = r.finish } ∷ []) r.tokens (record { item = t.EndOfFile; span = r.finish }) d refl

-- a refusal is about what stands next
pub refused_stands : (i : Input) (e : Fault) → StandsFor (refusal i) e → e.item ≢ Memory → (peek i).span ≡ e.span
unfolding refusal
refused_stands i e is m = ap (λ (f : Fault). f.span) (is m)
