-- What is found at the start of a text whose tokens spell a tree is that tree, with nothing left behind it.
use Rattle.std.proofs.Common.{◌≡◌, ◌≢◌, IfOk, IfErr, ℕ, suc, Bool, List, [], ◌∷◌, ◌++◌, length, None, Result, Ok, Err, ap, ◌∙◌, sym, refl, subst, append_assoc, arith}
use Rattle.std.specs.Str.{chars}
use Rattle.std.proofs.lemmas.List.{append-nil, same_from_push}
use Rattle.std.proofs.lemmas.Option.{MatchOption-at_none}
use Rattle.graphql_text.specs.declared.position.Span.{Span}
use Rattle.graphql_text.specs.declared.parse_error.ParseError.{ParseError}
use Rattle.graphql_text.specs.declared.parse_error.ParseError.TheVariants.{UnexpectedToken, UnexpectedEndOfFile, LexerError, ExpectedScalarError, Memory}
use Rattle.graphql_text.specs.Tokens.{Located}
use Rattle.graphql_lexer.proofs.GrammarLaws as lexical
use Rattle.graphql_scalars.specs.declared.default_scalar.DefaultScalarValue.{DefaultScalarValue}
use Rattle.graphql_scalars.specs.declared.default_scalar.DefaultScalarValue.TheVariants as scalar
use Rattle.graphql_scalars.specs.DefaultScalar.{reads}
use Rattle.graphql_values.specs.InputValues.{unlocated}
use Rattle.graphql_grammar.specs.Input.{At, Input, Fault, Outcome}
use Rattle.graphql_grammar.specs.Ahead.{mk}
use Rattle.graphql_grammar.specs.Relations.{end_of}
use Rattle.graphql_grammar.specs.Cursor.{IsStart, IsLexical}
use Rattle.graphql_grammar.specs.Faults.{Reading, Begins, FirstFaultyToken}
use Rattle.graphql_grammar.proofs.FirstFaults.{one_tree}
use Rattle.graphql_language.specs.Literals.{LiteralOf, NextValue}
use Rattle.graphql_language.specs.Parser.{State, Rule, Fails, CallsFresh, Calls, RefusesAgain}
use Rattle.graphql_language.specs.Texts.{IsCut}
use Rattle.graphql_value_syntax.specs.ReadValues.{value}
use Rattle.graphql_value_syntax.proofs.ValueLaws.{law_value}
use Rattle.graphql_plain_text.specs.Parts.{tokens_of, end_of as place_of_end, parts_text}
use Rattle.graphql_plain_text.specs.Writable.{Value, value_text, IsWritable}
use Rattle.graphql_plain_text.specs.ReadBackLaws.{Of, ShownSpells, ShownIsFound, IsSpelledBy, GivesBack, ShownIsReadBack}
use Rattle.graphql_plain_text.proofs.Parts.{parts_are_tokens}
use Rattle.graphql_plain_text.proofs.Printed.{no_lead, written_chars}
use Rattle.graphql_plain_text.proofs.Values.{written}

-- ---- any grammar

-- no token is faulty where all spell a tree
module _ {S A : Type 0} (reads : Reading S) (Trees : Reading S → List Located → A → Type 0) where
  abbrev Tree : List Located → A → Type 0
  Tree = Trees reads

  fits_by : (before rest : List Located) (x : A) → ((a : Located) (more : List Located) → rest ≡ a ∷ more → Begins reads Tree (before ++ a ∷ []) → ⊥) → (rest ≡ [] → (y : A) → Tree before y → ⊥) → Tree (before ++ rest) x → ⊥
  fits_by before [] x no_more too_short d = too_short refl x (subst (λ us. Tree us x) (append-nil before) d)
  fits_by before (a ∷ more) x no_more too_short d = no_more a more refl (record { more = more; tree = x; spells = subst (λ us. Tree us x) (sym (append_assoc before (a ∷ []) more)) d })

  pub no_fault : (i : Input) (x : A) (e : Fault) → Tree i.ahead x → FirstFaultyToken reads Trees i e → ⊥
  no_fault i x e d f = fits_by f.before f.rest x f.impossible f.too_short (subst (λ us. Tree us x) f.front d)

-- what only want of memory is left for
pub is_memory : (e : ParseError) → (e ≢ Memory → ⊥) → e ≡ Memory
is_memory (UnexpectedToken text) h = absurd (h (λ same. cc))
is_memory UnexpectedEndOfFile h = absurd (h (λ same. cc))
is_memory (LexerError e) h = absurd (h (λ same. cc))
is_memory (ExpectedScalarError text) h = absurd (h (λ same. cc))
is_memory Memory h = refl

-- a rule that refuses nothing there fails by want of memory alone
pub fails_by_memory : {A : Type 0} (rule : Rule A) (i : Input) (f : Fault) (new : State) → ((e : Fault) → rule i (Err e) new.input → ⊥) → Fails rule i f new → f.item ≡ Memory
fails_by_memory rule i f new none h = is_memory f.item (λ told. let same : h.fault ≡ f = h.told told in none h.fault (h.refuses (λ m. told (ap (λ (e : Fault). e.item) (sym same) ∙ m))))

-- the tokens that are ahead at the start of a text are those into which it is cut
pub start_tokens : (text : List ℕ) (tokens : List Located) (finish : Span) (i : Input) → IsCut text tokens finish → IsStart text i → i.ahead ≡ tokens
start_tokens text tokens finish i cut start = (same_from_push i.ahead tokens _ _ (lexical.one_list text _ _ start.divided cut)).0

-- a text that is cut has no lexical fault, so only want of memory may be told
pub no_lexical : (text : List ℕ) (tokens : List Located) (finish : Span) (e : Fault) → IsCut text tokens finish → (e.item ≢ Memory → IsLexical text e) → e.item ≡ Memory
no_lexical text tokens finish e cut h = is_memory e.item (λ told. let l = h told in lexical.not_both text _ l.0 cut l.1)

-- ---- input values

left_of : Outcome (At Value) → List Located
left_of (Ok p) = p.1.ahead
left_of (Err e) = []

reads_whole : (is_const : Bool) (ts : List Located) (x : At Value) → Of is_const ts x → (zs : List Located) (f : Span) (e : _) → value reads scalar.Boolean is_const (mk (ts ++ zs) f e) ≡ Ok (x, mk zs f (end_of e ts))
reads_whole is_const ts x d zs f e = (law_value reads scalar.Boolean is_const (suc (length ts))).reads ts x d (omega arith) zs refl f e

-- two values that some tokens begin with leave the same
same_left : (is_const : Bool) (ts us zs : List Located) (x y : At Value) (i : Input) → i.ahead ≡ ts → i.ahead ≡ us ++ zs → Of is_const ts x → Of is_const us y → zs ≡ []
unfolding left_of
same_left is_const ts us zs x y i whole front d r =
    let one = reads_whole is_const ts x d [] i.finish i.end in
    let other = reads_whole is_const us y r zs i.finish i.end in
    let same : ts ++ [] ≡ us ++ zs = append-nil ts ∙ (sym whole ∙ front) in
    ap left_of (sym other ∙ ap (λ ws. value reads scalar.Boolean is_const (mk ws i.finish i.end)) (sym same) ∙ one)

pub shown_spells : ShownSpells
shown_spells is_const v h =
    let w = written is_const v h [] no_lead in
    let parts = w.printed.parts in
    let tree = w.spells [] in
    let cut : IsCut (parts_text parts ++ []) (tokens_of [] parts) (place_of_end (parts_text parts ++ [])) = parts_are_tokens parts [] tt (w.printed.fits [] tt) in
    let text : parts_text parts ++ [] ≡ chars (value_text v) = append-nil (parts_text parts) ∙ sym (written_chars (parts_text parts) (value_text v) w.printed.writes) in
    record {
      tokens = tokens_of [] parts;
      finish = place_of_end (parts_text parts ++ []);
      cut = subst (λ t. IsCut t (tokens_of [] parts) (place_of_end (parts_text parts ++ []))) text cut;
      tree = tree.0;
      spells = tree.1;
      same = tree.2;
      only = λ other d. one_tree reads (Of is_const) (value reads scalar.Boolean is_const) (law_value reads scalar.Boolean is_const) refl (tokens_of [] parts) other tree.0 d tree.1;
    }

pub shown_is_found : ShownIsFound
shown_is_found is_const v h i start (Ok (x, j)) (spelled, only) =
    let s = shown_spells is_const v h in
    let ahead = start_tokens (chars (value_text v)) s.tokens s.finish i s.cut start in
    let whole : Of is_const i.ahead s.tree = subst (λ ts. Of is_const ts s.tree) (sym ahead) s.spells in
    let tree : s.tree ≡ x = only.same s.tree (mk [] i.finish (end_of i.end i.ahead)) (record { tokens = i.ahead; front = sym (append-nil i.ahead); spells = whole; after = refl }) in (
      ap (λ (y : At Value). unlocated y.item) (sym tree) ∙ s.same,
      same_left is_const i.ahead spelled.tokens j.ahead s.tree x i refl spelled.front whole spelled.spells,
      record { tokens = s.tokens; finish = s.finish; cut = s.cut; spells = subst (Of is_const s.tokens) tree s.spells },
    )
shown_is_found is_const v h i start (Err e) fault =
    let s = shown_spells is_const v h in
    let ahead = start_tokens (chars (value_text v)) s.tokens s.finish i s.cut start in
    no_fault reads (LiteralOf scalar.Boolean is_const) i s.tree e (subst (λ ts. Of is_const ts s.tree) (sym ahead) s.spells) fault

given_back : (is_const : Bool) (v : Value) → IsWritable is_const v → (i : Input) (new : State) (r : Result (At Value) Fault) → IsStart (chars (value_text v)) i → CallsFresh (NextValue DefaultScalarValue reads scalar.Boolean is_const) i r new → GivesBack is_const v r new
given_back is_const v h i new (Ok x) start gives = shown_is_found is_const v h i start (Ok (x, new.input)) gives.0
given_back is_const v h i new (Err f) start fails = fails_by_memory (NextValue DefaultScalarValue reads scalar.Boolean is_const) i f new (λ e missing. shown_is_found is_const v h i start (Err e) missing.0) fails

pub shown_is_read_back : ShownIsReadBack
shown_is_read_back is_const v h old new r start fresh calls =
    given_back is_const v h old.input new r start (MatchOption-at_none (CallsFresh (NextValue DefaultScalarValue reads scalar.Boolean is_const) old.input r new) (λ e. RefusesAgain e r × (new ≡ old)) fresh calls)

-- ---- what a call that reads a value answers

pub value_memory : (is_const : Bool) (v : Value) (text : List ℕ) (e : Fault) → IsWritable is_const v → text ≡ value_text v → (e.item ≢ Memory → IsLexical (chars text) e) → e.item ≡ Memory
value_memory is_const v text e h is lexical =
    let s = shown_spells is_const v h in
    no_lexical (chars (value_text v)) s.tokens s.finish e s.cut (subst (λ t. e.item ≢ Memory → IsLexical (chars t) e) is lexical)

pub value_read : (is_const : Bool) (v : Value) (text : List ℕ) (old new : State) (r : Result (At Value) Fault) → IsWritable is_const v → text ≡ value_text v → IsStart (chars text) old.input → old.refused ≡ None
    → Calls (NextValue DefaultScalarValue reads scalar.Boolean is_const) old r new → GivesBack is_const v r new
value_read is_const v text old new r h is start fresh calls = shown_is_read_back is_const v h old new r (subst (λ t. IsStart (chars t) old.input) is start) fresh calls

pub back_same : (is_const : Bool) (v : Value) (new : State) (r : Result (At Value) Fault) → GivesBack is_const v r new → IfOk r (λ found. unlocated found.item ≡ unlocated v)
back_same is_const v new (Ok x) h = h.0
back_same is_const v new (Err e) h = tt

pub back_spelled : (is_const : Bool) (v : Value) (new : State) (r : Result (At Value) Fault) → GivesBack is_const v r new → IfOk r (λ found. IsSpelledBy is_const (chars (value_text v)) found)
back_spelled is_const v new (Ok x) h = h.2
back_spelled is_const v new (Err e) h = tt

pub back_memory : (is_const : Bool) (v : Value) (new : State) (r : Result (At Value) Fault) → GivesBack is_const v r new → IfErr r (λ e. e.item ≡ Memory)
back_memory is_const v new (Ok x) h = tt
back_memory is_const v new (Err e) h = h
