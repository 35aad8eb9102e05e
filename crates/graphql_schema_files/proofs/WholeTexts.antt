-- What a parser finds at the start of a text tells what the text is as a whole.
use Rattle.std.proofs.Common.{◌≡◌, ◌≢◌, suc, true, List, [], ◌∷◌, ◌++◌, length, Option, None, Result, Ok, Err, IfOk, ap, ◌∙◌, sym, refl, subst, true≢false, arith}
use Rattle.std.specs.Str.{chars}
use Rattle.std.proofs.lemmas.List.{append-nil, same_from_push, nil_from_length}
use Rattle.std.proofs.lemmas.Option.{MatchOption-at_none}
use Rattle.std.specs.declared.alloc.AllocError.{AllocError}
use Rattle.graphql_text.specs.Memory.{UnlessMemory}
use Rattle.graphql_names.specs.Names.{Bytes}
use Rattle.graphql_text.specs.declared.position.Span.{Span}
use Rattle.graphql_text.specs.declared.parse_error.ParseError.TheVariants.{Memory}
use Rattle.graphql_text.specs.declared.token.Token.TheVariants.{EndOfFile}
use Rattle.graphql_text.specs.Tokens.{Located, is_end}
use Rattle.graphql_lexer.proofs.GrammarLaws as lexical
use Rattle.graphql_scalars.specs.declared.default_scalar.DefaultScalarValue.{DefaultScalarValue}
use Rattle.graphql_scalars.specs.declared.default_scalar.DefaultScalarValue.TheVariants as scalar
use Rattle.graphql_scalars.specs.DefaultScalar.{reads}
use Rattle.graphql_grammar.specs.Input.{At, Input, Fault, IsMemory, Outcome, first, peek}
use Rattle.graphql_grammar.specs.Ahead.{mk}
use Rattle.graphql_grammar.specs.Relations.{Rel, end_of}
use Rattle.graphql_grammar.specs.Cursor.{IsStart, IsLexical, NoEnd}
use Rattle.graphql_grammar.specs.Faults.{Reading, Spelled}
use Rattle.graphql_language.specs.Literals.{LiteralOf, Types, Missing, NextType, NextValue}
use Rattle.graphql_language.specs.Parser.{State, Rule, Fails, CallsFresh, Calls, RefusesAgain}
use Rattle.graphql_value_syntax.specs.ReadTypes.{TypeRef}
use Rattle.graphql_value_syntax.specs.ReadValues.{value}
use Rattle.graphql_value_syntax.specs.Types.{no_scalar}
use Rattle.graphql_value_syntax.proofs.ValueLaws.{law_value}
use Rattle.graphql_schema_files.specs.SpelledTexts.{FindsMeant, IsSpelled, IsType, IsLiteral, HasType, HasLiteral, Value}

-- ---- the end of a text

front_ended : (finish : Span) (xs : List Located) → NoEnd xs → (first finish xs).item ≡ EndOfFile → xs ≡ []
front_ended finish [] no_end at_end = refl
front_ended finish (x ∷ xs) no_end at_end = absurd (true≢false (sym (ap is_end at_end) ∙ no_end.0))

rest_has_no_end : (xs ys : List Located) → NoEnd (xs ++ ys) → NoEnd ys
rest_has_no_end [] ys h = h
rest_has_no_end (x ∷ xs) ys h = rest_has_no_end xs ys h.1

-- nothing is left where the end stands next, and else something is
nothing_left : (i : Input) → NoEnd i.ahead → (peek i).item ≡ EndOfFile → i.ahead ≡ []
unfolding peek
nothing_left i no_end at_end = front_ended i.finish i.ahead no_end at_end

something_left : (i : Input) → ((peek i).item ≡ EndOfFile → ⊥) → i.ahead ≡ [] → ⊥
unfolding peek
something_left i other empty = other (ap (λ xs. (first i.finish xs).item) empty)

-- ---- any grammar

-- `reads`, `Trees`: what scalars mean, and which tokens spell which tree
module _ {S A : Type 0} (reads : Reading S) (Trees : Reading S → Rel (At A)) where
  abbrev Tree : Rel (At A)
  Tree = Trees reads

  -- all the tokens at a start of the text spell what the text is
  whole : (text : Bytes) (i : Input) (x : A) → IsStart (chars text) i → (s : IsSpelled Tree text x) → Tree i.ahead s.tree
  whole text i x start s =
      subst (λ ts. Tree ts s.tree) (same_from_push s.start.ahead i.ahead _ _ (lexical.one_list (chars text) _ _ s.starts.divided start.divided)).0 s.spells

  whole_spelled : (i : Input) (tree : At A) → Tree i.ahead tree → Spelled reads Tree i tree (mk [] i.finish (end_of i.end i.ahead))
  whole_spelled i tree spells = record { tokens = i.ahead; front = sym (append-nil i.ahead); spells = spells; after = refl }

  -- what is spelled in front, with nothing behind it, is what the text is
  pub spelled_as_whole : (text : Bytes) (i j : Input) (x : At A) → IsStart (chars text) i → Spelled reads Tree i x j → j.ahead ≡ [] → IsSpelled Tree text x.item
  spelled_as_whole text i j x start s empty = record {
    start = i;
    starts = start;
    tree = x;
    spells = subst (λ ts. Tree ts x) (sym (s.front ∙ ap (λ zs. s.tokens ++ zs) empty ∙ append-nil s.tokens)) s.spells;
    is = refl;
  }

  -- the end stands behind what is spelled, or not
  pub ended : (text : Bytes) (i j : Input) (x : At A) → IsStart (chars text) i → Spelled reads Tree i x j → (peek j).item ≡ EndOfFile → j.ahead ≡ []
  ended text i j x start s at_end = nothing_left j (rest_has_no_end s.tokens j.ahead (subst NoEnd s.front start.no_end)) at_end

  -- a text that has a lexical fault is nothing
  pub not_lexical : (text : Bytes) (e : Fault) → UnlessMemory IsMemory e (IsLexical (chars text) e) → e.item ≢ Memory → ((x : A) × IsSpelled Tree text x) → ⊥
  not_lexical text e fault told is = let l = fault told in lexical.not_both (chars text) _ l.0 is.1.starts.divided l.1

  -- nor is one where nothing is spelled in front
  pub not_missing : (rule : Rule (At A)) → ((i j : Input) (e : Fault) → rule i (Err e) j → Missing reads Trees i e j)
      → (text : Bytes) (i : Input) (e : Fault) (new : State) → IsStart (chars text) i → Fails rule i e new → e.item ≢ Memory → ((x : A) × IsSpelled Tree text x) → ⊥
  not_missing rule means text i e new start fails told is =
      let same : fails.fault ≡ e = fails.told told in
      let refused = fails.refuses (λ memory. told (ap (λ (f : Fault). f.item) (sym same) ∙ memory)) in
      (means i new.input fails.fault refused).1 is.1.tree (mk [] i.finish (end_of i.end i.ahead)) (whole_spelled i is.1.tree (whole text i is.0 start is.1))

-- a parser that has not failed answers as one
fresh : {A : Type 0} (rule : Rule A) (old new : State) (r : Result A Fault) → old.refused ≡ None → Calls rule old r new → CallsFresh rule old.input r new
fresh rule old new r is calls = MatchOption-at_none (CallsFresh rule old.input r new) (λ e. RefusesAgain e r × (new ≡ old)) is calls

-- ---- type references

module _ (text : Bytes) (old new : State) (start : IsStart (chars text) old.input) (is_fresh : old.refused ≡ None) where
  pub type_found : (x : At TypeRef) → Calls NextType old (Ok x) new → (peek new.input).item ≡ EndOfFile → IsType text x.item
  type_found x calls at_end =
      let s = (fresh NextType old new (Ok x) is_fresh calls).0.0 in
      spelled_as_whole no_scalar Types text old.input new.input x start s (ended no_scalar Types text old.input new.input x start s at_end)

  pub type_goes_on : (x : At TypeRef) → Calls NextType old (Ok x) new → ((peek new.input).item ≡ EndOfFile → ⊥) → HasType text → ⊥
  type_goes_on x calls other is =
      let longest = (fresh NextType old new (Ok x) is_fresh calls).0.1 in
      let i = old.input in
      let most = longest.most is.1.tree (mk [] i.finish (end_of i.end i.ahead)) (whole_spelled no_scalar Types i is.1.tree (whole no_scalar Types text i is.0 start is.1)) in
      something_left new.input other (nil_from_length new.input.ahead (omega (arith, most)))

  pub type_missing : (e : Fault) → Calls NextType old (Err e) new → e.item ≢ Memory → HasType text → ⊥
  type_missing e calls told is =
      not_missing no_scalar Types NextType (λ i j e h. h) text old.input e new start (fresh NextType old new (Err e) is_fresh calls) told is

pub no_type : (text : Bytes) (e : Fault) → UnlessMemory IsMemory e (IsLexical (chars text) e) → e.item ≢ Memory → HasType text → ⊥
no_type text e = not_lexical no_scalar Types text e

-- ---- values

abbrev Next : Rule (At Value)
Next = NextValue DefaultScalarValue reads scalar.Boolean true

abbrev Constants : Reading DefaultScalarValue → Rel (At Value)
Constants = LiteralOf scalar.Boolean true

left_of : Outcome (At Value) → List Located
left_of (Ok p) = p.1.ahead
left_of (Err e) = []

reads_in_front : (ts : List Located) (x : At Value) → Constants reads ts x → (zs : List Located) (f : Span) (e : _) → value reads scalar.Boolean true (mk (ts ++ zs) f e) ≡ Ok (x, mk zs f (end_of e ts))
reads_in_front ts x d zs f e = (law_value reads scalar.Boolean true (suc (length ts))).reads ts x d (omega arith) zs refl f e

-- two values that are spelled in front leave the same
same_left : (ts us zs : List Located) (x y : At Value) (i : Input) → i.ahead ≡ ts → i.ahead ≡ us ++ zs → Constants reads ts x → Constants reads us y → zs ≡ []
unfolding left_of
same_left ts us zs x y i whole front d r =
    let one = reads_in_front ts x d [] i.finish i.end in
    let other = reads_in_front us y r zs i.finish i.end in
    let same : ts ++ [] ≡ us ++ zs = append-nil ts ∙ (sym whole ∙ front) in
    ap left_of (sym other ∙ ap (λ ws. value reads scalar.Boolean true (mk ws i.finish i.end)) (sym same) ∙ one)

module _ (text : Bytes) (old new : State) (start : IsStart (chars text) old.input) (is_fresh : old.refused ≡ None) where
  pub value_found : (x : At Value) → Calls Next old (Ok x) new → (peek new.input).item ≡ EndOfFile → IsLiteral text x.item
  value_found x calls at_end =
      let s = (fresh Next old new (Ok x) is_fresh calls).0.0 in
      spelled_as_whole reads Constants text old.input new.input x start s (ended reads Constants text old.input new.input x start s at_end)

  pub value_goes_on : (x : At Value) → Calls Next old (Ok x) new → ((peek new.input).item ≡ EndOfFile → ⊥) → HasLiteral text → ⊥
  value_goes_on x calls other is =
      let s = (fresh Next old new (Ok x) is_fresh calls).0.0 in
      let i = old.input in
      something_left new.input other (same_left i.ahead s.tokens new.input.ahead is.1.tree x i refl s.front (whole reads Constants text i is.0 start is.1) s.spells)

  pub value_missing : (e : Fault) → Calls Next old (Err e) new → e.item ≢ Memory → HasLiteral text → ⊥
  value_missing e calls told is =
      not_missing reads Constants Next (λ i j e h. h) text old.input e new start (fresh Next old new (Err e) is_fresh calls) told is

pub no_value : (text : Bytes) (e : Fault) → UnlessMemory IsMemory e (IsLexical (chars text) e) → e.item ≢ Memory → HasLiteral text → ⊥
no_value text e = not_lexical reads Constants text e

-- ---- what was found

-- nothing, by a fault that is not want of memory
pub nothing_found : {A B : Type 0} (Means : A → B → Type 0) (IsSound : A → Type 0) (x : A) (e : Fault) (r : Result (Option B) AllocError)
    → IfOk r (λ found. (found ≡ None) × (e.item ≢ Memory)) → (e.item ≢ Memory → IsSound x → ⊥) → IfOk r (FindsMeant Means IsSound x)
nothing_found Means IsSound x e (Ok found) told none = subst (FindsMeant Means IsSound x) (sym told.0) (none told.1)
nothing_found Means IsSound x e (Err f) told none = tt
