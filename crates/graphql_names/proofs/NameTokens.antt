-- A text is a name exactly where its tokens are that name and the end.
use Rattle.std.proofs.Common.{◌≡◌, ℕ, ◌+◌, Bool, true, false, ◌==◌, ◌||◌, List, [], ◌∷◌, ◌++◌, length, refl, sym, subst, ap, ◌∙◌, arith, append-nil, length-append}
use Rattle.std.specs.Prelude.{encode_utf8_all}
use Rattle.std.specs.Char.{is_ascii_alphabetic}
use Rattle.std.proofs.lemmas.Str.{encodes-append, length-le-encodes}
use Rattle.std.proofs.lemmas.List.{nil_from_length}
use Rattle.std.proofs.lemmas.Bool.Decides.{nat_tests}
use Rattle.graphql_text.specs.declared.token.Token.TheVariants as t
use Rattle.graphql_text.specs.Characters.{is_blank}
use Rattle.graphql_text.specs.Position.{position_of}
use Rattle.graphql_text.specs.Tokens.{Located}
use Rattle.graphql_text.specs.Grammar.{NextIsNot, IsName, Heads, Divides, IsDivided, Spells}
use Rattle.graphql_names.specs.Laws.{NamesAreTokens}

-- ---- a name is divided into itself and the end

-- what is ignored between tokens, with the beginning of a comment
abbrev is_passed : ℕ → Bool
is_passed c = is_blank c || c == 35

start_is_not_passed : (c : ℕ) → (c == 95 || is_ascii_alphabetic c) ≡ true → is_passed c ≡ false
start_is_not_passed c h = grind (arith, nat_tests)

no_gap : (cs : List ℕ) → IsName cs → NextIsNot is_passed cs
no_gap [] name = tt
no_gap (c ∷ cs) name = start_is_not_passed c name.0

abbrev name_of : List ℕ → Located
name_of text = record { item = t.Name (encode_utf8_all text); span = record { start = position_of []; end = position_of text } }

abbrev end_of : List ℕ → Located
end_of text = record { item = t.EndOfFile; span = record { start = position_of text; end = position_of text } }

name_heads : (text : List ℕ) → IsName text → Heads [] text (name_of text) text []
name_heads text name = record {
  gap = [];
  own = text;
  is = sym (append-nil text);
  after_is = refl;
  gap_is = record { ignored = []; is = refl; are = tt; no_more = subst (NextIsNot is_passed) (sym (append-nil text)) (no_gap text name) };
  spells = (name, refl);
  ends = tt;
  start = refl;
  end = refl;
}

end_heads : (text : List ℕ) → Heads text [] (end_of text) text []
end_heads text = record {
  gap = [];
  own = [];
  is = refl;
  after_is = sym (append-nil (text ++ []) ∙ append-nil text);
  gap_is = record { ignored = []; is = refl; are = tt; no_more = tt };
  spells = refl;
  ends = refl;
  start = ap position_of (sym (append-nil text));
  end = refl;
}

name_is_divided : (text : List ℕ) → IsName text → IsDivided text (name_of text ∷ end_of text ∷ [])
name_is_divided text name = record {
  front = name_of text ∷ [];
  last = end_of text;
  is = refl;
  before = text;
  rest = [];
  divides = (text, [], name_heads text name, refl, (refl, refl));
  heads = end_heads text;
  end = refl;
}

-- ---- a text that is divided so is a name

encoded_length : (xs ys : List ℕ) → length (encode_utf8_all (xs ++ ys)) ≡ length (encode_utf8_all xs) + length (encode_utf8_all ys)
encoded_length xs ys = ap length (encodes-append xs ys) ∙ length-append (encode_utf8_all xs) (encode_utf8_all ys)

nothing_encoded : (xs : List ℕ) → length (encode_utf8_all xs) ≡ 0 → xs ≡ []
nothing_encoded xs h = nil_from_length xs (omega (arith, length-le-encodes xs))

whole_is_own : (text gap own more : List ℕ) → text ≡ gap ++ (own ++ more) → encode_utf8_all text ≡ encode_utf8_all own → text ≡ own
whole_is_own text gap own more is same =
    let e : length (encode_utf8_all own) ≡ length (encode_utf8_all gap) + (length (encode_utf8_all own) + length (encode_utf8_all more)) =
    ap length (sym same) ∙ ap (λ z. length (encode_utf8_all z)) is ∙ encoded_length gap (own ++ more) ∙ ap (λ n. length (encode_utf8_all gap) + n) (encoded_length own more) in
    let no_gap : gap ≡ [] = nothing_encoded gap (omega arith) in
    let no_more : more ≡ [] = nothing_encoded more (omega arith) in
    is ∙ ap (λ z. z ++ (own ++ more)) no_gap ∙ ap (λ z. own ++ z) no_more ∙ append-nil own

heads_name : (text : List ℕ) (f : Located) (after behind : List ℕ) → Heads [] text f after behind → f.item ≡ t.Name (encode_utf8_all text) → IsName text
heads_name text f after behind h is =
    let s : Spells (t.Name (encode_utf8_all text)) h.own = subst (λ i. Spells i h.own) is h.spells in
    subst IsName (sym (whole_is_own text h.gap h.own behind h.is s.1)) s.0

first_is_name : (text : List ℕ) (front : List Located) (last name end : Located) (before rest : List ℕ) → Divides [] text front before rest
    → front ++ last ∷ [] ≡ name ∷ end ∷ [] → name.item ≡ t.Name (encode_utf8_all text) → IsName text
first_is_name text [] last name end before rest d is item = absurd (omega (arith, ap length is))
first_is_name text (f ∷ fs) last name end before rest (middle, more, h, goes, d) is item =
    let same : f ≡ name = cc in
    heads_name text f middle more h (ap (λ (x : Located). x.item) same ∙ item)

divided_is_name : (text : List ℕ) (name end : Located) → IsDivided text (name ∷ end ∷ []) → name.item ≡ t.Name (encode_utf8_all text) → IsName text
divided_is_name text name end d item = first_is_name text d.front d.last name end d.before d.rest d.divides (sym d.is) item

pub names_are_tokens : NamesAreTokens
names_are_tokens text = (λ name. (name_of text, end_of text, name_is_divided text name, refl), λ p. divided_is_name text p.0 p.1 p.2 p.3)
