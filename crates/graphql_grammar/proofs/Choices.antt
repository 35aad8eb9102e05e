-- The law of one token, of choices by the next token, of parts that may be absent, and of places.
use Rattle.std.proofs.Common.{◌≡◌, ℕ, ◌<◌, ◌≤◌, inl, inr, Bool, true, false, if◌then◌else◌, List, [], ◌∷◌, ◌++◌, length, Result, Ok, Err, Option, Some, None, ap, ◌∙◌, sym, refl, subst, arith}
use Rattle.std.specs.Prelude.{codes}
use Rattle.graphql_text.specs.declared.position.Span.{Span}
use Rattle.graphql_text.specs.declared.position.SourcePosition.{SourcePosition}
use Rattle.graphql_text.specs.declared.token.Token.{Token}
use Rattle.graphql_text.specs.declared.token.Token.TheVariants as t
use Rattle.graphql_text.specs.declared.token.ScalarToken.{ScalarToken}
use Rattle.graphql_text.specs.declared.token.ScalarToken.TheVariants as st
use Rattle.graphql_text.specs.declared.parse_error.ParseError.{ParseError}
use Rattle.graphql_grammar.specs.declared.kind.Kind.{Kind}
use Rattle.graphql_grammar.specs.declared.kind.Kind.TheVariants as k
use Rattle.graphql_grammar.specs.Kinds.{Kinds, kind, names, only, either, no_kind, apart, are_among}
use Rattle.graphql_grammar.specs.Input.{At, Input, Located, Fault, Parser, Outcome, and_then, ◌>>=◌, pure, refuse, refusal, peek, peek_kind, next}
use Rattle.graphql_grammar.specs.Steps.{sees, when, token, expect, any_scalar, scalar_by, read_by, with_place, located, optional}
use Rattle.graphql_grammar.specs.Ahead.{mk, In, Free, Like, kind_ahead, refused_at}
use Rattle.graphql_grammar.specs.Relations.{end_of, span_of, TokenOf, Nothing, Made, Placed, OptionOf, absent, present, EitherOf}
use Rattle.graphql_grammar.specs.Faults.{BadScalar, GoodScalar, ScalarOf}
use Rattle.graphql_grammar.proofs.Cursors.{word_is_name}
use Rattle.graphql_grammar.proofs.Sets.{is_kind, or_left, or_right, in_left, in_right, within_is}
use Rattle.graphql_grammar.proofs.Stops.{Stop, done, refused, unread, Runs, Continues, Sentence, Starts, ran_before, stop_prefix, narrow_runs}
use Rattle.graphql_grammar.proofs.Law.{Law, ReadsAs, Begun, begun_first, begun_second, least, stops_of, follows, law_is, law_made, law_pure}

pub sees-ahead : (kinds : Kinds) (xs : List Located) (f : Span) (e : SourcePosition) → sees kinds (mk xs f e) ≡ kinds (kind_ahead xs)
unfolding sees peek_kind peek
sees-ahead kinds [] f e = refl
sees-ahead kinds (a ∷ xs) f e = refl

pub refusal-is : (xs : List Located) (f : Span) (e : SourcePosition) → refusal (mk xs f e) ≡ refused_at f xs
unfolding refusal peek
refusal-is xs f e = refl

pub when_then : {A : Type 0} (kinds : Kinds) (p q : Parser A) (i : Input) → In kinds i.ahead → when kinds p q i ≡ p i
when_then {A} kinds p q i h = let P : Bool → Type 0 = λ b. Path (Outcome A) (if b then p i else q i) (p i) in subst P (sym (sees-ahead kinds i.ahead i.finish i.end ∙ h)) refl

pub when_else : {A : Type 0} (kinds : Kinds) (p q : Parser A) (i : Input) → Free kinds i.ahead → when kinds p q i ≡ q i
when_else {A} kinds p q i h = let P : Bool → Type 0 = λ b. Path (Outcome A) (if b then p i else q i) (q i) in subst P (sym (sees-ahead kinds i.ahead i.finish i.end ∙ h)) refl

like_free : (kinds : Kinds) (b : Bool) (xs ys : List Located) → Like xs ys → kinds (kind_ahead xs) ≡ b → kinds (kind_ahead ys) ≡ b
like_free kinds b xs ys l h = ap kinds (sym l) ∙ h

-- ---- one token

module _ {A : Type 0} (kinds : Kinds) (meaning : Token → A) where
  pub token_reads : (a : Located) (zs : List Located) (f : Span) (e : SourcePosition) → kinds (kind a.item) ≡ true → token kinds meaning (mk (a ∷ zs) f e) ≡ Ok (meaning a.item, mk zs f a.span.end)
  unfolding token next peek
  token_reads a zs f e h = when_then kinds (λ i. Ok (meaning (peek i).item, next i)) refuse (mk (a ∷ zs) f e) h

  pub token_refuses : (zs : List Located) (f : Span) (e : SourcePosition) → Free kinds zs → token kinds meaning (mk zs f e) ≡ Err (refused_at f zs)
  unfolding token
  token_refuses zs f e h = when_else kinds (λ i. Ok (meaning (peek i).item, next i)) refuse (mk zs f e) h ∙ ap Err (refusal-is zs f e)

  pub token_begins : (b : Bool) (i j : Input) (x : A) → kinds (kind_ahead i.ahead) ≡ b → token kinds meaning i ≡ Ok (x, j) → In kinds i.ahead
  token_begins true i j x is r = is
  token_begins false i j x is r = absurd (let q = sym r ∙ token_refuses i.ahead i.finish i.end is in cc)

  module _ (Bad : Located → Fault → Type 0) (Good : Located → Type 0) (sample : Token) (is : kinds (kind sample) ≡ true) (ends : kinds k.EndOfFile ≡ false) where
    token_sentence : Sentence Bad Good (Free no_kind) (token kinds meaning)
    token_sentence f e = record { more = record { item = sample; span = f } ∷ []; tree = meaning sample; last = f.end; reads_on = λ zs h. token_reads (record { item = sample; span = f }) zs f e is }

    token_stop : (b : Bool) (f : Span) (e : SourcePosition) (xs : List Located) → kinds (kind_ahead xs) ≡ b → Stop Bad Good 1 (Free no_kind) (TokenOf kinds meaning) (token kinds meaning) f e xs
    token_stop false f e xs h = refused [] xs refl (λ zs l. token_refuses zs f e (like_free kinds false xs zs l h)) (token_sentence f e)
    token_stop true f e [] h = absurd (cc)
    token_stop true f e (a ∷ xs) h = done (a ∷ []) xs (meaning a.item) refl (omega arith) (record { at = a; alone = refl; of_kind = h; means = refl }) (λ zs l. token_reads a zs f e h)

    token_spelled : (ts : List Located) (x : A) → TokenOf kinds meaning ts x → (zs : List Located) → ReadsAs (token kinds meaning) ts x zs
    token_spelled ts x r zs f e = subst (λ us. token kinds meaning (mk (us ++ zs) f e) ≡ Ok (x, mk zs f (end_of e us))) (sym r.alone) (token_reads r.at zs f e r.of_kind ∙ ap (λ y. Ok (y, mk zs f r.at.span.end)) (sym r.means))

    pub law_token : {n : ℕ} → Law Bad Good true kinds no_kind (TokenOf kinds meaning) n (token kinds meaning)
    law_token = record {
      runs = record { stop = λ xs f e fewer. token_stop (kinds (kind_ahead xs)) f e xs refl };
      reads = λ ts x r below zs c. token_spelled ts x r zs;
      size = λ ts x r below. let l : length ts ≡ 1 = ap length r.alone in omega arith;
      sentence = token_sentence;
      begins = λ i j x r. token_begins (kinds (kind_ahead i.ahead)) i j x refl r;
    }

-- a token of each kind
pub sample : Kind → Token
sample k.Name = t.Name (codes "name")
sample k.On = t.Name (codes "on")
sample k.Query = t.Name (codes "query")
sample k.Mutation = t.Name (codes "mutation")
sample k.Subscription = t.Name (codes "subscription")
sample k.Fragment = t.Name (codes "fragment")
sample k.True = t.Name (codes "true")
sample k.False = t.Name (codes "false")
sample k.Null = t.Name (codes "null")
sample k.Scalar = t.Scalar (st.Int [])
sample k.ExclamationMark = t.ExclamationMark
sample k.Dollar = t.Dollar
sample k.ParenOpen = t.ParenOpen
sample k.ParenClose = t.ParenClose
sample k.BracketOpen = t.BracketOpen
sample k.BracketClose = t.BracketClose
sample k.CurlyOpen = t.CurlyOpen
sample k.CurlyClose = t.CurlyClose
sample k.Ellipsis = t.Ellipsis
sample k.Colon = t.Colon
sample k.Equals = t.Equals
sample k.At = t.At
sample k.Pipe = t.Pipe
sample k.EndOfFile = t.EndOfFile

pub sample_is : (w : Kind) → only w (kind (sample w)) ≡ true
unfolding sample
sample_is k.Name = refl
sample_is k.On = refl
sample_is k.Query = refl
sample_is k.Mutation = refl
sample_is k.Subscription = refl
sample_is k.Fragment = refl
sample_is k.True = refl
sample_is k.False = refl
sample_is k.Null = refl
sample_is k.Scalar = refl
sample_is k.ExclamationMark = refl
sample_is k.Dollar = refl
sample_is k.ParenOpen = refl
sample_is k.ParenClose = refl
sample_is k.BracketOpen = refl
sample_is k.BracketClose = refl
sample_is k.CurlyOpen = refl
sample_is k.CurlyClose = refl
sample_is k.Ellipsis = refl
sample_is k.Colon = refl
sample_is k.Equals = refl
sample_is k.At = refl
sample_is k.Pipe = refl
sample_is k.EndOfFile = refl

-- a token of one kind
module _ (Bad : Located → Fault → Type 0) (Good : Located → Type 0) where
  pub law_one : {A : Type 0} {n : ℕ} (w : Kind) (x : A) → only w k.EndOfFile ≡ false → Law Bad Good true (only w) no_kind (TokenOf (only w) (λ v. x)) n (token (only w) (λ v. x))
  law_one w x ends = law_token (only w) (λ v. x) Bad Good (sample w) (sample_is w) ends

  pub law_expect : {n : ℕ} (w : Kind) → only w k.EndOfFile ≡ false → Law Bad Good true (only w) no_kind (TokenOf {A = Unit {0}} (only w) (λ v. tt {0})) n (expect w)
  law_expect w ends = law_one w (tt {0}) ends

-- ---- a scalar

module _ {S : Type 0} (reads : ScalarToken → Result S ParseError) where
  scalar_at : (a : Located) (zs : List Located) (f : Span) (e : SourcePosition) (s : ScalarToken) → a.item ≡ t.Scalar s → any_scalar reads (mk (a ∷ zs) f e) ≡ read_by reads (reads s) (mk (a ∷ zs) f e)
  unfolding any_scalar peek
  scalar_at a zs f e s is = ap (λ x. scalar_by reads x (mk (a ∷ zs) f e)) is

  scalar_reads : (a : Located) (zs : List Located) (f : Span) (e : SourcePosition) (s : ScalarToken) (x : S) → a.item ≡ t.Scalar s → reads s ≡ Ok x → any_scalar reads (mk (a ∷ zs) f e) ≡ Ok (x, mk zs f a.span.end)
  unfolding next
  scalar_reads a zs f e s x is means = scalar_at a zs f e s is ∙ ap (λ r. read_by reads r (mk (a ∷ zs) f e)) means

  scalar_faults : (a : Located) (zs : List Located) (f : Span) (e : SourcePosition) (s : ScalarToken) (x : ParseError) → a.item ≡ t.Scalar s → reads s ≡ Err x → any_scalar reads (mk (a ∷ zs) f e) ≡ Err (record { item = x; span = a.span })
  unfolding peek
  scalar_faults a zs f e s x is means = scalar_at a zs f e s is ∙ ap (λ r. read_by reads r (mk (a ∷ zs) f e)) means

scalar_token : (x : Token) → kind x ≡ k.Scalar → (s : ScalarToken) × (x ≡ t.Scalar s)
scalar_token (t.Scalar s) h = (s, refl)
scalar_token (t.Name n) h = absurd (let q = sym (word_is_name n) ∙ ap names h in cc)
scalar_token t.ExclamationMark h = cc
scalar_token t.Dollar h = cc
scalar_token t.ParenOpen h = cc
scalar_token t.ParenClose h = cc
scalar_token t.BracketOpen h = cc
scalar_token t.BracketClose h = cc
scalar_token t.CurlyOpen h = cc
scalar_token t.CurlyClose h = cc
scalar_token t.Ellipsis h = cc
scalar_token t.Colon h = cc
scalar_token t.Equals h = cc
scalar_token t.At h = cc
scalar_token t.Pipe h = cc
scalar_token t.EndOfFile h = cc

-- ---- a choice by the next token

module _ (Bad : Located → Fault → Type 0) (Good : Located → Type 0) {A : Type 0} {b : Bool} {n : ℕ} {starts1 stops1 starts2 stops2 : Kinds} {P Q : List Located → A → Type 0} {p q : Parser A} (c : Kinds)
    (inside : are_among starts1 c ≡ true) (outside : apart starts2 c ≡ true) (one : Law Bad Good true starts1 stops1 P n p) (two : Law Bad Good b starts2 stops2 Q n q) where
  abbrev stops_both : Kinds
  stops_both = either stops1 (stops_of b c stops2)

  free_one : (xs : List Located) → Free stops_both xs → Free stops1 xs
  free_one xs h = or_left (stops1 (kind_ahead xs)) (stops_of b c stops2 (kind_ahead xs)) h

  free_two : (xs : List Located) → Free stops_both xs → Free (stops_of b c stops2) xs
  free_two xs h = or_right (stops1 (kind_ahead xs)) (stops_of b c stops2 (kind_ahead xs)) h

  free_two_by : (v : Bool) (xs : List Located) → Free (stops_of v c stops2) xs → Free stops2 xs
  free_two_by true xs h = h
  free_two_by false xs h = or_left (stops2 (kind_ahead xs)) (c (kind_ahead xs)) h

  starts_one : Starts (In c) p (Free stops_both)
  starts_one i j x r u = within_is starts1 c inside (kind_ahead i.ahead) (one.begins i j x r)

  starts_two : Starts (Free c) q (Free stops_both)
  starts_two i j x r u = follows b starts2 c stops2 i j outside (two.begins i j x r) (free_two j.ahead u)

  runs_one : Runs Bad Good 1 (Free stops_both) P n p
  runs_one = narrow_runs Bad Good free_one one.runs

  runs_two : Runs Bad Good (least b) (Free stops_both) Q n q
  runs_two = narrow_runs Bad Good (λ xs h. free_two_by b xs (free_two xs h)) two.runs

  few : (v : Bool) → least v ≤ 1
  few true = omega arith
  few false = omega arith

  when_stop : (v : Bool) (f : Span) (e : SourcePosition) (xs : List Located) → length xs < n → c (kind_ahead xs) ≡ v → Stop Bad Good (least b) (Free stops_both) (EitherOf P Q) (when c p q) f e xs
  when_stop true f e xs fewer is = let m = few b in
      stop_prefix Bad Good 1 (least b) (In c) (Free stops_both) (EitherOf P Q) P (when c p q) p f e [] xs starts_one (omega arith) (λ us x r. inl r)
      (λ zs h. when_then c p q (mk zs f e) (elim h [ inl l ↦ like_free c true xs zs l is | inr u ↦ u ])) (runs_one.stop xs f e fewer)
  when_stop false f e xs fewer is =
      stop_prefix Bad Good (least b) (least b) (Free c) (Free stops_both) (EitherOf P Q) Q (when c p q) q f e [] xs starts_two (omega arith) (λ us x r. inr r)
      (λ zs h. when_else c p q (mk zs f e) (elim h [ inl l ↦ like_free c false xs zs l is | inr u ↦ u ])) (runs_two.stop xs f e fewer)

  when_reads : (ts : List Located) (x : A) → EitherOf P Q ts x → length ts < n → (zs : List Located) → Free stops_both zs → ReadsAs (when c p q) ts x zs
  when_reads ts x (inl r) below zs u f e = let read = one.reads ts x r below zs (free_one zs u) f e in
      when_then c p q (mk (ts ++ zs) f e) (starts_one (mk (ts ++ zs) f e) (mk zs f (end_of e ts)) x read u) ∙ read
  when_reads ts x (inr r) below zs u f e = let read = two.reads ts x r below zs (free_two_by b zs (free_two zs u)) f e in
      when_else c p q (mk (ts ++ zs) f e) (starts_two (mk (ts ++ zs) f e) (mk zs f (end_of e ts)) x read u) ∙ read

  when_size : (ts : List Located) (x : A) → EitherOf P Q ts x → length ts < n → least b ≤ length ts
  when_size ts x (inl r) below = let m = few b in let l = one.size ts x r below in omega arith
  when_size ts x (inr r) below = two.size ts x r below

  when_begins : (v : Bool) (i j : Input) (x : A) → c (kind_ahead i.ahead) ≡ v → when c p q i ≡ Ok (x, j) → Begun b (either starts1 starts2) i j
  when_begins true i j x is r = begun_first b starts1 starts2 i j (one.begins i j x (sym (when_then c p q i is) ∙ r))
  when_begins false i j x is r = begun_second b starts1 starts2 i j (two.begins i j x (sym (when_else c p q i is) ∙ r))

  when_sentence : Sentence Bad Good (Free stops_both) (when c p q)
  when_sentence f e = let s = two.sentence f e in record {
    more = s.more;
    tree = s.tree;
    last = s.last;
    reads_on = λ zs u. let read = s.reads_on zs (free_two_by b zs (free_two zs u)) in
        when_else c p q (mk (s.more ++ zs) f e) (starts_two (mk (s.more ++ zs) f e) (mk zs f s.last) s.tree read u) ∙ read;
  }

  pub law_when : Law Bad Good b (either starts1 starts2) stops_both (EitherOf P Q) n (when c p q)
  law_when = record {
    runs = record { stop = λ xs f e fewer. when_stop (c (kind_ahead xs)) f e xs fewer refl };
    reads = when_reads;
    size = when_size;
    sentence = when_sentence;
    begins = λ i j x r. when_begins (c (kind_ahead i.ahead)) i j x refl r;
  }

-- ---- a scalar, or what does not begin with one

module _ {S : Type 0} (reads : ScalarToken → Result S ParseError) {A : Type 0} {n : ℕ} {starts stops : Kinds} {Q : List Located → A → Type 0} {q : Parser A} (make : S → A)
    (outside : apart starts (only k.Scalar) ≡ true) (two : Law (BadScalar reads) (GoodScalar reads) true starts stops Q n q) where
  abbrev read_scalar : Parser A
  read_scalar = any_scalar reads >>= (λ s. pure (make s))

  abbrev both : Parser A
  both = when (only k.Scalar) read_scalar q

  both_scalar : (a : Located) (zs : List Located) (f : Span) (e : SourcePosition) (s : ScalarToken) → a.item ≡ t.Scalar s → both (mk (a ∷ zs) f e) ≡ read_scalar (mk (a ∷ zs) f e)
  both_scalar a zs f e s is = when_then (only k.Scalar) read_scalar q (mk (a ∷ zs) f e) (ap (λ x. only k.Scalar (kind x)) is)

  both_reads : (a : Located) (zs : List Located) (f : Span) (e : SourcePosition) (s : ScalarToken) (x : S) → a.item ≡ t.Scalar s → reads s ≡ Ok x → both (mk (a ∷ zs) f e) ≡ Ok (make x, mk zs f a.span.end)
  both_reads a zs f e s x is means = both_scalar a zs f e s is ∙ ap (λ o. and_then o (λ y. pure (make y))) (scalar_reads reads a zs f e s x is means)

  both_starts : Starts (Free (only k.Scalar)) q (Free stops)
  both_starts i j x r u = follows true starts (only k.Scalar) stops i j outside (two.begins i j x r) u

  both_sentence : Sentence (BadScalar reads) (GoodScalar reads) (Free stops) both
  both_sentence f e = let s = two.sentence f e in record {
    more = s.more;
    tree = s.tree;
    last = s.last;
    reads_on = λ zs u. let read = s.reads_on zs u in when_else (only k.Scalar) read_scalar q (mk (s.more ++ zs) f e) (both_starts (mk (s.more ++ zs) f e) (mk zs f s.last) s.tree read u) ∙ read;
  }

  good : (f : Span) (e : SourcePosition) (a : Located) → GoodScalar reads a → Continues (Free stops) both f e (a ∷ [])
  good f e a g = record { more = []; tree = make g.scalar; last = a.span.end; reads_on = λ zs u. both_reads a zs f e g.token g.scalar g.is g.reads_it }

  scalar_stop : (a : Located) (rest : List Located) (f : Span) (e : SourcePosition) (s : ScalarToken) (r : Result S ParseError) → a.item ≡ t.Scalar s → reads s ≡ r
      → Stop (BadScalar reads) (GoodScalar reads) 1 (Free stops) (EitherOf (Made make (ScalarOf reads)) Q) both f e (a ∷ rest)
  scalar_stop a rest f e s (Ok x) is means = done (a ∷ []) rest (make x) refl (omega arith)
      (inl (record { part = x; spells = record { at = a; token = s; alone = refl; is = is; reads_it = means }; is = refl })) (λ zs u. both_reads a zs f e s x is means)
  scalar_stop a rest f e s (Err x) is means = unread [] rest a (record { item = x; span = a.span }) refl (record { token = s; error = x; is = is; reads_not = means; fault = refl })
      (λ zs. both_scalar a zs f e s is ∙ ap (λ o. and_then o (λ y. pure (make y))) (scalar_faults reads a zs f e s x is means)) (λ g h. good f e g h) (both_sentence f e)

  both_stop : (v : Bool) (f : Span) (e : SourcePosition) (xs : List Located) → length xs < n → only k.Scalar (kind_ahead xs) ≡ v
      → Stop (BadScalar reads) (GoodScalar reads) 1 (Free stops) (EitherOf (Made make (ScalarOf reads)) Q) both f e xs
  both_stop true f e [] fewer is = absurd (cc)
  both_stop true f e (a ∷ xs) fewer is = let u = scalar_token a.item (is_kind (kind a.item) k.Scalar is) in scalar_stop a xs f e u.0 (reads u.0) u.1 refl
  both_stop false f e xs fewer is =
      stop_prefix (BadScalar reads) (GoodScalar reads) 1 1 (Free (only k.Scalar)) (Free stops) (EitherOf (Made make (ScalarOf reads)) Q) Q both q f e [] xs both_starts (omega arith) (λ us x r. inr r)
      (λ zs h. when_else (only k.Scalar) read_scalar q (mk zs f e) (elim h [ inl l ↦ like_free (only k.Scalar) false xs zs l is | inr u ↦ u ])) (two.runs.stop xs f e fewer)

  both_spelled : (ts : List Located) (x : A) → EitherOf (Made make (ScalarOf reads)) Q ts x → length ts < n → (zs : List Located) → Free stops zs → ReadsAs both ts x zs
  both_spelled ts x (inl r) below zs u f e = let s = r.spells in
      subst (λ us. both (mk (us ++ zs) f e) ≡ Ok (x, mk zs f (end_of e us))) (sym s.alone) (both_reads s.at zs f e s.token r.part s.is s.reads_it ∙ ap (λ y. Ok (y, mk zs f s.at.span.end)) (sym r.is))
  both_spelled ts x (inr r) below zs u f e = let read = two.reads ts x r below zs u f e in
      when_else (only k.Scalar) read_scalar q (mk (ts ++ zs) f e) (both_starts (mk (ts ++ zs) f e) (mk zs f (end_of e ts)) x read u) ∙ read

  both_size : (ts : List Located) (x : A) → EitherOf (Made make (ScalarOf reads)) Q ts x → length ts < n → 1 ≤ length ts
  both_size ts x (inl r) below = let s = r.spells in let l : length ts ≡ 1 = ap length s.alone in omega arith
  both_size ts x (inr r) below = two.size ts x r below

  both_begins : (v : Bool) (i j : Input) (x : A) → only k.Scalar (kind_ahead i.ahead) ≡ v → both i ≡ Ok (x, j) → In (either (only k.Scalar) starts) i.ahead
  both_begins true i j x is r = in_left (only k.Scalar (kind_ahead i.ahead)) (starts (kind_ahead i.ahead)) is
  both_begins false i j x is r = in_right (only k.Scalar (kind_ahead i.ahead)) (starts (kind_ahead i.ahead)) (two.begins i j x (sym (when_else (only k.Scalar) read_scalar q i is) ∙ r))

  pub law_scalar_or : Law (BadScalar reads) (GoodScalar reads) true (either (only k.Scalar) starts) stops (EitherOf (Made make (ScalarOf reads)) Q) n both
  law_scalar_or = record {
    runs = record { stop = λ xs f e fewer. both_stop (only k.Scalar (kind_ahead xs)) f e xs fewer refl };
    reads = both_spelled;
    size = both_size;
    sentence = both_sentence;
    begins = λ i j x r. both_begins (only k.Scalar (kind_ahead i.ahead)) i j x refl r;
  }

-- ---- a part that may be absent

module _ (Bad : Located → Fault → Type 0) (Good : Located → Type 0) {A : Type 0} {n : ℕ} {starts stops : Kinds} {P : List Located → A → Type 0} {p : Parser A} (c : Kinds)
    (inside : are_among starts c ≡ true) (one : Law Bad Good true starts stops P n p) where
  option_of : (ts : List Located) (x : Option A) → EitherOf (Made Some P) (Nothing None) ts x → OptionOf P ts x
  option_of ts x (inl r) = subst (λ o. OptionOf P ts o) (sym r.is) (present ts r.part r.spells)
  option_of ts x (inr r) = subst (λ us. OptionOf P us x) (sym r.empty) (subst (λ o. OptionOf P [] o) (sym r.is) absent)

  either_of : (ts : List Located) (x : Option A) → OptionOf P ts x → EitherOf (Made Some P) (Nothing None) ts x
  either_of _ _ absent = inr (record { empty = refl; is = refl })
  either_of _ _ (present ts x r) = inl (record { part = x; spells = r; is = refl })

  pub law_optional : Law Bad Good false (either starts no_kind) (either stops (either no_kind c)) (OptionOf P) n (optional c p)
  law_optional = law_is Bad Good option_of either_of (law_when Bad Good c inside refl (law_made Bad Good Some one) (law_pure Bad Good None))

-- ---- the place of what is read

module _ (Bad : Located → Fault → Type 0) (Good : Located → Type 0) {A : Type 0} {n : ℕ} {starts stops : Kinds} {P : List Located → A → Type 0} {p : Parser A}
    (ends : starts k.EndOfFile ≡ false) (free : stops k.EndOfFile ≡ false) (one : Law Bad Good true starts stops P n p) where
  placed_more : (f : Span) (e : SourcePosition) (a : Located) (ts : List Located) → Continues (Free stops) p f e (a ∷ ts) → Continues (Free stops) (located p) f e (a ∷ ts)
  unfolding peek
  placed_more f e a ts c = record {
    more = c.more;
    tree = record { item = c.tree; span = record { start = a.span.start; end = c.last } };
    last = c.last;
    reads_on = λ zs h. ap (λ o. and_then o (with_place (mk (a ∷ (ts ++ (c.more ++ zs))) f e))) (c.reads_on zs h);
  }

  sentence_by : (f : Span) (e : SourcePosition) (more : List Located) (x : A) (last : SourcePosition) → ((zs : List Located) → Free stops zs → p (mk (more ++ zs) f e) ≡ Ok (x, mk zs f last)) → Continues (Free stops) (located p) f e []
  unfolding peek
  sentence_by f e [] x last reads = absurd (let q : starts k.EndOfFile ≡ true = one.begins (mk [] f e) (mk [] f last) x (reads [] free) in cc)
  sentence_by f e (a ∷ ts) x last reads = record {
    more = a ∷ ts;
    tree = record { item = x; span = record { start = a.span.start; end = last } };
    last = last;
    reads_on = λ zs h. ap (λ o. and_then o (with_place (mk (a ∷ (ts ++ zs)) f e))) (reads zs h);
  }

  located_sentence : Sentence Bad Good (Free stops) (located p)
  located_sentence f e = let s = one.sentence f e in sentence_by f e s.more s.tree s.last s.reads_on

  located_on : (f : Span) (e : SourcePosition) (ts : List Located) → Continues (Free stops) p f e ts → Continues (Free stops) (located p) f e ts
  located_on f e [] c = located_sentence f e
  located_on f e (a ∷ ts) c = placed_more f e a ts c

  located_stop : (f : Span) (e : SourcePosition) (xs : List Located) → Stop Bad Good 1 (Free stops) P p f e xs → Stop Bad Good 1 (Free stops) (Placed P) (located p) f e xs
  unfolding peek
  located_stop f e xs (done [] rest x is many r reads) = absurd (omega arith)
  located_stop f e xs (done (a ∷ ts) rest x is many r reads) =
      done (a ∷ ts) rest (record { item = x; span = span_of a ts }) is many (record { head = a; tail = ts; is = refl; spells = r; stands = refl })
      (λ zs h. ap (λ o. and_then o (with_place (mk (a ∷ (ts ++ zs)) f e))) (reads zs h))
  located_stop f e xs (refused seen rest is reads on) =
      refused seen rest is (λ zs h. ap (λ o. and_then o (with_place (mk (seen ++ zs) f e))) (reads zs h)) (located_on f e seen on)
  located_stop f e xs (unread seen rest a err is bad reads good on) =
      unread seen rest a err is bad (λ zs. ap (λ o. and_then o (with_place (mk (seen ++ a ∷ zs) f e))) (reads zs)) (λ b g. located_on f e (seen ++ b ∷ []) (good b g)) (located_on f e seen on)

  reads_placed : (a : Located) (ts zs : List Located) (x : A) → ReadsAs p (a ∷ ts) x zs → ReadsAs (located p) (a ∷ ts) (record { item = x; span = span_of a ts }) zs
  unfolding peek
  reads_placed a ts zs x r f e = ap (λ o. and_then o (with_place (mk (a ∷ (ts ++ zs)) f e))) (r f e)

  located_reads : (ts : List Located) (y : At A) → Placed P ts y → length ts < n → (zs : List Located) → Free stops zs → ReadsAs (located p) ts y zs
  located_reads ts y r below zs c =
      let W : Span → At A = λ s. record { item = y.item; span = s } in
      let whole = one.reads ts y.item r.spells below zs c in
      let here : ReadsAs p (r.head ∷ r.tail) y.item zs = subst (λ us. ReadsAs p us y.item zs) r.is whole in
      subst (λ us. ReadsAs (located p) us y zs) (sym r.is) (subst (λ s. ReadsAs (located p) (r.head ∷ r.tail) (W s) zs) (sym r.stands) (reads_placed r.head r.tail zs y.item here))

  located_begins : (i j : Input) (y : At A) → located p i ≡ Ok (y, j) → In starts i.ahead
  located_begins i j y r = let u = ran_before (p i) (with_place i) (y, j) r in one.begins i u.0.1 u.0.0 u.1

  pub law_located : Law Bad Good true starts stops (Placed P) n (located p)
  law_located = record {
    runs = record { stop = λ xs f e fewer. located_stop f e xs (one.runs.stop xs f e fewer) };
    reads = located_reads;
    size = λ ts y r below. one.size ts y.item r.spells below;
    sentence = located_sentence;
    begins = located_begins;
  }
