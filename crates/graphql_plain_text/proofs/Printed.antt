-- Texts that are printed in parts, one behind another.
use Rattle.std.proofs.Common.{◌≡◌, ℕ, false, List, [], ◌∷◌, ◌++◌, refl, sym, subst, ap, ◌∙◌, arith, append_assoc, append-nil}
use Rattle.std.specs.Prelude.{encode_utf8_all}
use Rattle.std.specs.Str.{chars, IsUtf8, IsAscii}
use Rattle.std.proofs.lemmas.Str.{encodes-append, encodes-IsAscii, IsUtf8-append, IsUtf8-from_ascii, chars_from_encodes}
use Rattle.std.proofs.lemmas.Str.Ascii.{IsAscii-cons, IsAscii-nil}
use Rattle.graphql_text.specs.declared.token.Token.{Token}
use Rattle.graphql_text.specs.Tokens.{is_end}
use Rattle.graphql_text.specs.Grammar.{Spells, Ends}
use Rattle.graphql_plain_text.specs.Parts.{TextPart, AreBlank, IsClosed, parts_text, IsTokenBefore, AllFit, up_to, located_part, tokens_of}
use Rattle.graphql_plain_text.proofs.Parts.{up_to_all}

-- ---- characters and their bytes

-- these characters are written by these bytes
pub record Writes (cs bs : List ℕ) : Type 0 where
  pub utf8 : IsUtf8 bs
  pub is : encode_utf8_all cs ≡ bs

pub writes_append : (cs ds bs es : List ℕ) → Writes cs bs → Writes ds es → Writes (cs ++ ds) (bs ++ es)
writes_append cs ds bs es a b =
    record { utf8 = IsUtf8-append bs es a.utf8 b.utf8; is = encodes-append cs ds ∙ ap (λ l. l ++ encode_utf8_all ds) a.is ∙ ap (λ l. bs ++ l) b.is }

pub writes_ascii : (cs : List ℕ) → IsAscii cs → Writes cs cs
writes_ascii cs h = record { utf8 = IsUtf8-from_ascii cs h; is = encodes-IsAscii cs h }

pub writes_as : (cs bs es : List ℕ) → bs ≡ es → Writes cs bs → Writes cs es
writes_as cs bs es same w = subst (λ l. Writes cs l) same w

pub written_chars : (cs bs : List ℕ) → Writes cs bs → chars bs ≡ cs
written_chars cs bs w = sym (chars_from_encodes cs bs w.utf8 w.is)

-- ---- parts behind parts

pub text_append : (ps qs : List TextPart) → parts_text (ps ++ qs) ≡ parts_text ps ++ parts_text qs
text_append [] qs = refl
text_append (p ∷ ps) qs =
    ap (λ l. p.blanks ++ (p.own ++ l)) (text_append ps qs) ∙ ap (λ l. p.blanks ++ l) (sym (append_assoc p.own (parts_text ps) (parts_text qs))) ∙ sym (append_assoc p.blanks (p.own ++ parts_text ps) (parts_text qs))

pub fit_append : (ps qs : List TextPart) (behind : List ℕ) → AllFit ps (parts_text qs ++ behind) → AllFit qs behind → AllFit (ps ++ qs) behind
fit_append [] qs behind front back = back
fit_append (p ∷ ps) qs behind front back =
    let moved : parts_text ps ++ (parts_text qs ++ behind) ≡ parts_text (ps ++ qs) ++ behind = sym (append_assoc (parts_text ps) (parts_text qs) behind) ∙ ap (λ l. l ++ behind) (sym (text_append ps qs)) in
    (subst (λ l. IsTokenBefore p l) moved front.0, fit_append ps qs behind front.1 back)

pub tokens_append : (before : List ℕ) (ps qs : List TextPart) → tokens_of before (ps ++ qs) ≡ tokens_of before ps ++ tokens_of (before ++ parts_text ps) qs
tokens_append before [] qs = ap (λ l. tokens_of l qs) (sym (append-nil before))
tokens_append before (p ∷ ps) qs =
    ap (λ l. located_part before p ∷ l) (tokens_append (up_to before p) ps qs ∙ ap (λ l. tokens_of (up_to before p) ps ++ tokens_of l qs) (up_to_all before p (parts_text ps)))

-- ---- printed texts

-- what stands in front of a word
pub record IsLead (lead : List ℕ) : Type 0 where
  pub blank : AreBlank lead
  pub ascii : IsAscii lead

pub no_lead : IsLead []
no_lead = record { blank = tt; ascii = IsAscii-nil }

pub space_lead : IsLead (32 ∷ [])
space_lead = record { blank = (refl, tt); ascii = IsAscii-cons 32 [] (omega arith) IsAscii-nil }

pub comma_lead : IsLead (44 ∷ 32 ∷ [])
comma_lead = record { blank = (refl, (refl, tt)); ascii = IsAscii-cons 44 (32 ∷ []) (omega arith) (IsAscii-cons 32 [] (omega arith) IsAscii-nil) }

-- the characters of a token, and its bytes
pub record IsWord (token : Token) (own bytes : List ℕ) : Type 0 where
  pub spells : Spells token own
  pub goes_on : is_end token ≡ false
  pub writes : Writes own bytes

pub record Printed (text : List ℕ) : Type 0 where
  pub parts : List TextPart
  pub writes : Writes (parts_text parts) text
  -- in front of what is closed the parts are their tokens
  pub fits : (behind : List ℕ) → IsClosed behind → AllFit parts behind

abbrev pub printed_as : {a b : List ℕ} → a ≡ b → Printed a → Printed b
printed_as {a} {b} same p = record { parts = p.parts; writes = writes_as (parts_text p.parts) a b same p.writes; fits = p.fits }

abbrev pub printed_nil : Printed []
printed_nil = record { parts = []; writes = writes_ascii [] IsAscii-nil; fits = λ behind closed. tt }

-- a word in front of what is printed
abbrev pub printed_cons : (lead : List ℕ) (token : Token) (own bytes : List ℕ) {text : List ℕ} → IsLead lead → IsWord token own bytes → (rest : Printed text)
    → ((behind : List ℕ) → IsClosed behind → Ends token own (parts_text rest.parts ++ behind)) → Printed (lead ++ (bytes ++ text))
printed_cons lead token own bytes {text} l w rest ends = record {
  parts = record { blanks = lead; token = token; own = own } ∷ rest.parts;
  writes = writes_append lead (own ++ parts_text rest.parts) lead (bytes ++ text) (writes_ascii lead l.ascii) (writes_append own (parts_text rest.parts) bytes text w.writes rest.writes);
  fits = λ behind closed. (record { blank = l.blank; spells = w.spells; ends = ends behind closed; goes_on = w.goes_on }, rest.fits behind closed);
}

-- what is closed in front of all that is closed
abbrev pub Closes : List ℕ → Type 0
Closes front = (behind : List ℕ) → IsClosed behind → IsClosed (front ++ behind)

-- what is printed behind what is printed
abbrev pub printed_append : {a b : List ℕ} (p : Printed a) (q : Printed b) → Closes (parts_text q.parts) → Printed (a ++ b)
printed_append {a} {b} p q closes = record {
  parts = p.parts ++ q.parts;
  writes = subst (λ l. Writes l (a ++ b)) (sym (text_append p.parts q.parts)) (writes_append (parts_text p.parts) (parts_text q.parts) a b p.writes q.writes);
  fits = λ behind closed. fit_append p.parts q.parts behind (p.fits (parts_text q.parts ++ behind) (closes behind closed)) (q.fits behind closed);
}
