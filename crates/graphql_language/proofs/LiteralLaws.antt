-- What parsers of values and of type references answer, in the grammar's words.
use Rattle.std.proofs.Common.{◌≡◌, ◌<◌, ◌≤◌, OnOk, length-append, ◌⊎◌, inl, inr, suc, Bool, true, List, ◌++◌, length, Result, Ok, Err, sym, ap, ◌∙◌, refl, arith}
use Rattle.graphql_text.specs.declared.position.Span.{Span}
use Rattle.graphql_text.specs.declared.position.SourcePosition.{SourcePosition}
use Rattle.graphql_text.specs.declared.token.ScalarToken.{ScalarToken}
use Rattle.graphql_text.specs.declared.parse_error.ParseError.{ParseError}
use Rattle.graphql_values.specs.declared.input_value.InputValue.{InputValue}
use Rattle.graphql_grammar.specs.Input.{At, Input, Located, Fault, Parser, Outcome, Reads, StandsAt, left}
use Rattle.graphql_grammar.specs.Ahead.{mk}
use Rattle.graphql_grammar.specs.Relations.{Rel}
use Rattle.graphql_grammar.specs.Faults.{Reading, BadScalar, GoodScalar, SoughtAlone, Sought}
use Rattle.graphql_grammar.specs.Leaves.{Behind, LeftAt}
use Rattle.graphql_grammar.proofs.FirstFaults.{found, sought, fault_left}
use Rattle.graphql_grammar.proofs.OneFault.{one_first_fault}
use Rattle.graphql_value_syntax.proofs.Readings.{twins_value, twins_type}
use Rattle.graphql_language.specs.Parser.{State, Rule, Calls, ReadsBy}
use Rattle.graphql_language.proofs.NextTokens.{answered}
use Rattle.graphql_language.specs.Literals.{LiteralOf, Types, NoneInFront, NextValue, NextType, NeverBoth, ReadOrRefused, OneRefusal}
use Rattle.graphql_value_syntax.specs.ReadValues.{value}
use Rattle.graphql_value_syntax.specs.ReadTypes.{TypeRef, type_ref}
use Rattle.graphql_value_syntax.specs.Values.{ValueOf}
use Rattle.graphql_value_syntax.specs.Types.{no_scalar}
use Rattle.graphql_value_syntax.proofs.ValueLaws.{law_value}
use Rattle.graphql_value_syntax.proofs.TypeLaws.{law_type}
use Rattle.graphql_language.proofs.TypeFronts.{type_read}

-- ---- what is in front is read

-- where a parser reads each tree whatever follows, it refuses only where none is in front
none_in_front : {S A : Type 0} (reads : Reading S) (Tree : Reading S → Rel A) (p : Parser A)
    → ((ts : List Located) (x : A) → Tree reads ts x → (zs : List Located) (f : Span) (e : SourcePosition) → (q : A × Input) × (p (mk (ts ++ zs) f e) ≡ Ok q))
    → (i : Input) (e : Fault) → p i ≡ Err e → NoneInFront reads Tree i
none_in_front reads Tree p whole i e h = λ x j s.
    let r = whole s.tokens x s.spells j.ahead i.finish i.end in
    let q = sym h ∙ ap (λ ts. p (mk ts i.finish i.end)) s.front ∙ r.1 in cc

-- by the answer of a parser that meets its rule
module _ {A : Type 0} (rule : Rule A) (p : Parser A) (read : (i j : Input) (x : A) → p i ≡ Ok (x, j) → rule i (Ok x) j) (missing : (i j : Input) (e : Fault) → LeftAt i e j → p i ≡ Err e → rule i (Err e) j)
    (stops : (i : Input) (e : Fault) → p i ≡ Err e → (j : Input) × LeftAt i e j) where
  reads_by : (i j : Input) (r : Result A Fault) → Reads (p i) r j → Behind i j → StandsAt r j → ReadsBy rule i r j
  reads_by i j (Ok x) reads behind stands = read i j x reads
  reads_by i j (Err e) reads behind stands = λ told. (missing i j e (behind, stands told) (reads told), stands told)

  either_by : (i : Input) (o : Outcome A) → p i ≡ o → ((x : A) × (j : Input) × rule i (Ok x) j) ⊎ ((e : Fault) × (j : Input) × rule i (Err e) j)
  either_by i (Ok q) h = inl (q.0, q.1, read i q.1 q.0 h)
  either_by i (Err e) h = let s = stops i e h in inr (e, s.0, missing i s.0 e s.1 h)

  either_way : ReadOrRefused rule
  either_way i = either_by i (p i) refl

-- ---- fewer tokens are left

-- behind some tokens, of which there is one at least
fewer_behind : (i j : Input) (ts : List Located) → i.ahead ≡ ts ++ j.ahead → 1 ≤ length ts → left j < left i
fewer_behind i j ts front some = let whole : left i ≡ length (ts ++ j.ahead) = ap length front in let sum = length-append ts j.ahead in omega arith

fewer_by : {A : Type 0} (rule : Rule A) (s t : State) (r : Result A Fault) → ((x : A) → rule s.input (Ok x) t.input → left t.input < left s.input) → Calls rule s r t → OnOk r (left t.input < left s.input)
fewer_by rule s t (Ok x) fewer calls = fewer x (answered rule s t x calls)
fewer_by rule s t (Err e) fewer calls = tt

-- ---- values

module _ {S : Type 0} (reads : ScalarToken → Result S ParseError) (of_bool : Bool → S) (c : Bool) where
  abbrev Of : Rel (At (InputValue S))
  Of = ValueOf S reads of_bool c

  value_found : (i : Input) (o : Outcome (At (InputValue S))) → value reads of_bool c i ≡ o → SoughtAlone reads (LiteralOf of_bool c) i o
  value_found = found (LiteralOf of_bool c) (λ q. value q of_bool c) (λ q. law_value q of_bool c) refl (λ p q. twins_value p q of_bool c) (of_bool true) reads (λ zs. refl)

  value_whole : (ts : List Located) (x : At (InputValue S)) → Of ts x → (zs : List Located) (f : Span) (e : SourcePosition) → (q : At (InputValue S) × Input) × (value reads of_bool c (mk (ts ++ zs) f e) ≡ Ok q)
  value_whole ts x d zs f e = (_, (law_value reads of_bool c (suc (length ts))).reads ts x d (omega arith) zs refl f e)

  value_read : (i j : Input) (x : At (InputValue S)) → value reads of_bool c i ≡ Ok (x, j) → NextValue S reads of_bool c i (Ok x) j
  value_read i j x h = value_found i (Ok (x, j)) h

  value_missing : (i j : Input) (e : Fault) → LeftAt i e j → value reads of_bool c i ≡ Err e → NextValue S reads of_bool c i (Err e) j
  value_missing i j e left h = (value_found i (Err e) h, none_in_front reads (LiteralOf of_bool c) (value reads of_bool c) value_whole i e h, left)

  value_stops : (i : Input) (e : Fault) → value reads of_bool c i ≡ Err e → (j : Input) × LeftAt i e j
  value_stops i e h = fault_left reads (LiteralOf of_bool c) i e (value_found i (Err e) h)

  pub reads_by_value : (i j : Input) (r : Result (At (InputValue S)) Fault) → Reads (value reads of_bool c i) r j → Behind i j → StandsAt r j → ReadsBy (NextValue S reads of_bool c) i r j
  reads_by_value i j r read behind stands = reads_by (NextValue S reads of_bool c) (value reads of_bool c) value_read value_missing value_stops i j r read behind stands

  pub fewer_by_value : (s t : State) (r : Result (At (InputValue S)) Fault) → Calls (NextValue S reads of_bool c) s r t → OnOk r (left t.input < left s.input)
  fewer_by_value s t r calls = fewer_by (NextValue S reads of_bool c) s t r
      (λ x found. let d = found.0 in fewer_behind s.input t.input d.tokens d.front ((law_value reads of_bool c (suc (length d.tokens))).size d.tokens x d.spells (omega arith))) calls

  pub value_never_both : NeverBoth (NextValue S reads of_bool c)
  value_never_both i j k x e found missing = missing.1 x j found.0

  pub value_one_fault : OneRefusal (NextValue S reads of_bool c)
  value_one_fault i j k e f one other = one_first_fault reads (LiteralOf of_bool c) i e f one.0 other.0

  pub value_or_refused : ReadOrRefused (NextValue S reads of_bool c)
  value_or_refused = either_way (NextValue S reads of_bool c) (value reads of_bool c) value_read value_missing value_stops

-- ---- type references

type_sought : (i : Input) (o : Outcome (At TypeRef)) → type_ref i ≡ o → Sought no_scalar Types i o
type_sought = sought Types (λ q. type_ref) (λ q. law_type (BadScalar q) (GoodScalar q)) refl (λ p q. twins_type p q (λ b. tt {0})) (tt {0}) no_scalar

type_here : (i j : Input) (x : At TypeRef) → type_ref i ≡ Ok (x, j) → NextType i (Ok x) j
type_here i j x h = type_sought i (Ok (x, j)) h

type_missing : (i j : Input) (e : Fault) → LeftAt i e j → type_ref i ≡ Err e → NextType i (Err e) j
type_missing i j e left h = (type_sought i (Err e) h, none_in_front no_scalar Types type_ref type_read i e h, left)

type_stops : (i : Input) (e : Fault) → type_ref i ≡ Err e → (j : Input) × LeftAt i e j
type_stops i e h = fault_left no_scalar Types i e (type_sought i (Err e) h)

pub reads_by_type : (i j : Input) (r : Result (At TypeRef) Fault) → Reads (type_ref i) r j → Behind i j → StandsAt r j → ReadsBy NextType i r j
reads_by_type i j r read behind stands = reads_by NextType type_ref type_here type_missing type_stops i j r read behind stands

pub fewer_by_type : (s t : State) (r : Result (At TypeRef) Fault) → Calls NextType s r t → OnOk r (left t.input < left s.input)
fewer_by_type s t r calls = fewer_by NextType s t r
    (λ x found. let d = found.0 in fewer_behind s.input t.input d.tokens d.front ((law_type (BadScalar no_scalar) (GoodScalar no_scalar) (suc (length d.tokens))).size d.tokens x d.spells (omega arith))) calls

pub type_never_both : NeverBoth NextType
type_never_both i j k x e found missing = missing.1 x j found.0

pub type_one_fault : OneRefusal NextType
type_one_fault i j k e f one other = one_first_fault no_scalar Types i e f one.0 other.0

pub type_or_refused : ReadOrRefused NextType
type_or_refused = either_way NextType type_ref type_here type_missing type_stops
