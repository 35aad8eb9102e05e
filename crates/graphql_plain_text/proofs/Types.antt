-- What a type is displayed as spells it.
use Rattle.std.proofs.Common.{◌≡◌, ℕ, ◌≤◌, Bool, true, false, Some, None, List, [], ◌∷◌, ◌++◌, length, Result, Ok, Err, refl, sym, subst, ap, ◌∙◌, arith, append_assoc, append-nil}
use Rattle.std.specs.Str.{chars}
use Rattle.std.proofs.lemmas.List.{nil_from_length}
use Rattle.std.proofs.lemmas.Option.{MatchOption-at_none}
use Rattle.graphql_text.specs.declared.position.Span.{Span}
use Rattle.graphql_text.specs.declared.token.Token.{Token}
use Rattle.graphql_text.specs.declared.token.Token.TheVariants as t
use Rattle.graphql_text.specs.Tokens.{Located}
use Rattle.graphql_text.specs.Grammar.{IsName, Ends}
use Rattle.graphql_names.specs.declared.type_modifier.TypeModifier.{TypeModifier}
use Rattle.graphql_names.specs.declared.type_modifier.TypeModifier.TheVariants as m
use Rattle.graphql_names.specs.TypeReference.{written_type}
use Rattle.graphql_grammar.specs.Input.{At, Input, Fault}
use Rattle.graphql_grammar.specs.Ahead.{mk}
use Rattle.graphql_grammar.specs.Cursor.{IsStart}
use Rattle.graphql_grammar.specs.Relations.{end_of, span_of}
use Rattle.graphql_grammar.specs.Faults.{BadScalar, GoodScalar, Spelled}
use Rattle.graphql_grammar.proofs.FirstFaults.{one_tree}
use Rattle.graphql_language.specs.Literals.{Types, NextType}
use Rattle.graphql_language.specs.Parser.{State, CallsFresh, RefusesAgain}
use Rattle.graphql_language.specs.Texts.{IsCut}
use Rattle.graphql_value_syntax.specs.ReadTypes.{TypeRef, type_ref}
use Rattle.graphql_value_syntax.specs.Types.{NullableOf, of_name, of_list, TypeOf, of_nullable, of_non_null, no_scalar}
use Rattle.graphql_value_syntax.proofs.TypeLaws.{law_type}
use Rattle.graphql_plain_text.specs.Parts.{TextPart, IsClosed, parts_text, located_part, up_to, tokens_of, end_of as place_of_end}
use Rattle.graphql_plain_text.specs.WritableTypes.{CanWrap, IsWritableType}
use Rattle.graphql_plain_text.specs.ReadBackLaws.{WrittenSpells, WrittenIsFound, GivesTypeBack, WrittenIsReadBack}
use Rattle.graphql_plain_text.proofs.Parts.{parts_are_tokens, closed_tokens_end}
use Rattle.graphql_plain_text.proofs.Printed.{tokens_append, no_lead, IsWord, written_chars, Printed, printed_as, printed_nil, printed_cons, printed_append}
use Rattle.graphql_plain_text.proofs.PrintedWords.{name_word, bracket_open, bracket_close, exclamation_mark}
use Rattle.graphql_plain_text.proofs.ReadBack.{no_fault, start_tokens, fails_by_memory}

-- a name with wraps
abbrev wrapped_in : List ℕ → List TypeModifier → TypeRef
wrapped_in n ms = record { name = n; modifiers = ms }

-- what spells a type that keeps null out, or one that does not
abbrev Of : Bool → List Located → TypeRef → Type 0
Of true ts x = (span : Span) × TypeOf ts (record { item = x; span = span })
Of false ts x = NullableOf ts x

-- a type of this name and these wraps is printed so
record Wrapped (is_non_null : Bool) (n : List ℕ) (ms : List TypeModifier) (text : List ℕ) : Type 0 where
  pub printed : Printed text
  pub spells : (before : List ℕ) → (a : Located) × (ts : List Located) × (tokens_of before printed.parts ≡ a ∷ ts) × Of is_non_null (a ∷ ts) (wrapped_in n ms)

as_type : (is_non_null : Bool) (a : Located) (ts : List Located) (x : TypeRef) → Of is_non_null (a ∷ ts) x → (span : Span) × TypeOf (a ∷ ts) (record { item = x; span = span })
as_type true a ts x d = d
as_type false a ts x d = (span_of a ts, of_nullable a ts x d)

plain_type : (n : List ℕ) → IsName n → Wrapped false n [] n
plain_type n h = record {
  printed = printed_as (append-nil n) (printed_cons [] (t.Name n) n n no_lead (name_word n h) printed_nil (λ behind closed. closed_tokens_end (t.Name n) n behind refl closed));
  spells = λ before. let a = located_part before (record { blanks = []; token = t.Name n; own = n }) in (a, [], refl, of_name a n refl);
}

-- a mark that closes, on its own
abbrev closing : (token : Token) (c : ℕ) → IsWord token (c ∷ []) (c ∷ []) → ((behind : List ℕ) → IsClosed behind → Ends token (c ∷ []) behind) → Printed (c ∷ [])
closing token c w ends = printed_cons [] token (c ∷ []) (c ∷ []) no_lead w printed_nil ends

non_null_type : (n : List ℕ) (ms : List TypeModifier) (text : List ℕ) → Wrapped false n ms text → Wrapped true n (ms ++ m.NonNull ∷ []) (text ++ 33 ∷ [])
non_null_type n ms text w =
    let mark = closing t.ExclamationMark 33 exclamation_mark (λ behind closed. tt) in
    record {
      printed = printed_append w.printed mark (λ behind closed. refl);
      spells = λ before.
          let inner = w.spells before in
          let b = located_part (before ++ parts_text w.printed.parts) (record { blanks = []; token = t.ExclamationMark; own = 33 ∷ [] }) in (
            inner.0,
            inner.1 ++ b ∷ [],
            tokens_append before w.printed.parts mark.parts ∙ ap (λ ts. ts ++ b ∷ []) inner.2,
            (record { start = inner.0.span.start; end = b.span.end }, of_non_null inner.0 b inner.1 (wrapped_in n ms) inner.3 refl),
          );
    }

list_type : (is_non_null : Bool) (n : List ℕ) (ms : List TypeModifier) (text : List ℕ) → Wrapped is_non_null n ms text → Wrapped false n (ms ++ m.List None ∷ []) (91 ∷ (text ++ 93 ∷ []))
list_type is_non_null n ms text w =
    let mark = closing t.BracketClose 93 bracket_close (λ behind closed. tt) in
    let inside = printed_append w.printed mark (λ behind closed. refl) in
    record {
      printed = printed_cons [] t.BracketOpen (91 ∷ []) (91 ∷ []) no_lead bracket_open inside (λ behind closed. tt);
      spells = λ before.
          let opening : TextPart = record { blanks = []; token = t.BracketOpen; own = 91 ∷ [] } in
          let first = up_to before opening in
          let a = located_part before opening in
          let inner = w.spells first in
          let b = located_part (first ++ parts_text w.printed.parts) (record { blanks = []; token = t.BracketClose; own = 93 ∷ [] }) in
          let within = as_type is_non_null inner.0 inner.1 (wrapped_in n ms) inner.3 in (
            a,
            (inner.0 ∷ inner.1) ++ b ∷ [],
            ap (λ ts. a ∷ ts) (tokens_append first w.printed.parts mark.parts ∙ ap (λ ts. ts ++ b ∷ []) inner.2),
            of_list a b (inner.0 ∷ inner.1) (record { item = wrapped_in n ms; span = within.0 }) refl within.1 refl,
          );
    }

-- from the innermost wrap on
all_wraps : (is_non_null : Bool) (n : List ℕ) (inner ms : List TypeModifier) (text : List ℕ) → CanWrap is_non_null ms → Wrapped is_non_null n inner text
    → (b : Bool) × Wrapped b n (inner ++ ms) (written_type text ms)
all_wraps is_non_null n inner [] text h w = (is_non_null, subst (λ ms. Wrapped is_non_null n ms text) (sym (append-nil inner)) w)
all_wraps true n inner (m.NonNull ∷ ms) text h w = elim h [ ]
all_wraps false n inner (m.NonNull ∷ ms) text h w =
    let r = all_wraps true n (inner ++ m.NonNull ∷ []) ms (text ++ 33 ∷ []) h (non_null_type n inner text w) in
    (r.0, subst (λ all. Wrapped r.0 n all (written_type (text ++ 33 ∷ []) ms)) (append_assoc inner (m.NonNull ∷ []) ms) r.1)
all_wraps is_non_null n inner (m.List None ∷ ms) text h w =
    let r = all_wraps false n (inner ++ m.List None ∷ []) ms (91 ∷ (text ++ 93 ∷ [])) h (list_type is_non_null n inner text w) in
    (r.0, subst (λ all. Wrapped r.0 n all (written_type (91 ∷ (text ++ 93 ∷ [])) ms)) (append_assoc inner (m.List None ∷ []) ms) r.1)
all_wraps is_non_null n inner (m.List (Some size) ∷ ms) text h w = elim h [ ]

pub written_spells : WrittenSpells
written_spells x h =
    let r = all_wraps false x.name [] x.modifiers x.name h.wraps (plain_type x.name h.name) in
    let w = r.1 in
    let parts = w.printed.parts in
    let found = w.spells [] in
    let tree = as_type r.0 found.0 found.1 x found.3 in
    let cut : IsCut (parts_text parts ++ []) (tokens_of [] parts) (place_of_end (parts_text parts ++ [])) = parts_are_tokens parts [] tt (w.printed.fits [] tt) in
    let text : parts_text parts ++ [] ≡ chars (written_type x.name x.modifiers) = append-nil (parts_text parts) ∙ sym (written_chars (parts_text parts) (written_type x.name x.modifiers) w.printed.writes) in
    let spells : TypeOf (tokens_of [] parts) (record { item = x; span = tree.0 }) = subst (λ ts. TypeOf ts (record { item = x; span = tree.0 })) (sym found.2) tree.1 in
    record {
      tokens = tokens_of [] parts;
      finish = place_of_end (parts_text parts ++ []);
      cut = subst (λ t. IsCut t (tokens_of [] parts) (place_of_end (parts_text parts ++ []))) text cut;
      span = tree.0;
      spells = spells;
      only = λ other d. ap (λ (y : At TypeRef). y.item)
          (one_tree no_scalar TypeOf type_ref (law_type (BadScalar no_scalar) (GoodScalar no_scalar)) refl (tokens_of [] parts) other (record { item = x; span = tree.0 }) d spells);
    }

pub written_is_found : WrittenIsFound
written_is_found x h i start (Ok (y, j)) (spelled, longest) =
    let s = written_spells x h in
    let ahead = start_tokens (chars (written_type x.name x.modifiers)) s.tokens s.finish i s.cut start in
    let tree : At TypeRef = record { item = x; span = s.span } in
    let whole : Spelled no_scalar TypeOf i tree (mk [] i.finish (end_of i.end i.ahead)) =
    record { tokens = i.ahead; front = sym (append-nil i.ahead); spells = subst (λ ts. TypeOf ts tree) (sym ahead) s.spells; after = refl } in
    let most : length j.ahead ≤ 0 = longest.most tree (mk [] i.finish (end_of i.end i.ahead)) whole in
    let none : j.ahead ≡ [] = nil_from_length j.ahead (omega arith) in
    (ap (λ (z : At TypeRef). z.item) (sym (longest.same tree (mk [] i.finish (end_of i.end i.ahead)) whole (omega arith))), none)
written_is_found x h i start (Err e) fault =
    let s = written_spells x h in
    let ahead = start_tokens (chars (written_type x.name x.modifiers)) s.tokens s.finish i s.cut start in
    let tree : At TypeRef = record { item = x; span = s.span } in
    no_fault no_scalar Types i tree e (subst (λ ts. TypeOf ts tree) (sym ahead) s.spells) fault

given_back : (x : TypeRef) → IsWritableType x → (i : Input) (new : State) (r : Result (At TypeRef) Fault) → IsStart (chars (written_type x.name x.modifiers)) i → CallsFresh NextType i r new → GivesTypeBack x r new
given_back x h i new (Ok y) start gives = written_is_found x h i start (Ok (y, new.input)) gives.0
given_back x h i new (Err f) start fails = fails_by_memory NextType i f new (λ e missing. written_is_found x h i start (Err e) missing.0) fails

pub written_is_read_back : WrittenIsReadBack
written_is_read_back x h old new r start fresh calls =
    given_back x h old.input new r start (MatchOption-at_none (CallsFresh NextType old.input r new) (λ e. RefusesAgain e r × (new ≡ old)) fresh calls)
