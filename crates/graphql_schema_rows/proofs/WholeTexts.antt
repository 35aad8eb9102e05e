-- What a text is as a whole, by what is read of its tokens.
use Rattle.std.proofs.Common.{◌≡◌, ◌≢◌, IfOk, IfErr, ℕ, inl, inr, true, false, List, [], ◌∷◌, ◌++◌, Result, Ok, Err, ap, ◌∙◌, sym, refl, subst}
use Rattle.std.proofs.lemmas.List.{append-nil}
use Rattle.graphql_text.specs.declared.parse_error.ParseError.TheVariants.{Memory}
use Rattle.graphql_text.specs.Position.{origin}
use Rattle.graphql_text.specs.Tokens.{is_end}
use Rattle.graphql_grammar.specs.declared.kind.Kind.TheVariants as k
use Rattle.graphql_grammar.specs.Kinds.{Kinds, either, only}
use Rattle.graphql_grammar.specs.Input.{Input, Located, Fault, Outcome, Parser, Reads, and_then, pure, refusal, refuse}
use Rattle.graphql_grammar.specs.Relations.{Nothing, Rel, Then}
use Rattle.graphql_grammar.specs.Steps.{finished, sees}
use Rattle.graphql_grammar.specs.Ahead.{mk, kind_ahead}
use Rattle.graphql_grammar.specs.Faults.{BadScalar, FirstFaultyToken, GoodScalar, Reading}
use Rattle.graphql_grammar.specs.Cursor.{NoEnd, IsStart}
use Rattle.graphql_grammar.proofs.Cursors.{end_or_not}
use Rattle.graphql_grammar.proofs.Parts.{when_no, when_yes}
use Rattle.graphql_grammar.proofs.Law.{Law, law_bind, law_is}
use Rattle.graphql_grammar.proofs.Readings.{Twins, twins_bind, twins_finished}
use Rattle.graphql_grammar.proofs.Stops.{ran_before}
use Rattle.graphql_grammar.proofs.Ends.{finished_end, law_finished, not_end}
use Rattle.graphql_grammar.proofs.FirstFaults.{spelled, first_fault}
use Rattle.graphql_schema_rows.specs.ReadDefinitions.{whole}
use Rattle.graphql_schema_rows.specs.Texts.{IsRefused, IsText, IsUngrammatical}

no_end_behind : (ts us : List Located) → NoEnd (ts ++ us) → NoEnd us
no_end_behind [] us h = h
no_end_behind (a ∷ ts) us h = no_end_behind ts us h.1

nothing_left : (us : List Located) → NoEnd us → only k.EndOfFile (kind_ahead us) ≡ true → us ≡ []
nothing_left [] h is = refl
nothing_left (a ∷ us) h is = elim (end_or_not a.item) [ inl e ↦ absurd (let q = sym h.0 ∙ ap is_end e in cc) | inr e ↦ absurd (let q = sym e.1 ∙ is in cc) ]

start_is : (text : List ℕ) (i : Input) → IsStart text i → i ≡ mk i.ahead i.finish origin
start_is text i start = ap (λ e. mk i.ahead i.finish e) start.end

module _ {A : Type 0} (P : Rel A) where
  -- it, and nothing behind it
  abbrev Whole : Rel A
  Whole = Then P (λ x. Nothing x)

  alone : (ts : List Located) (x : A) → Whole ts x → P ts x
  alone ts x r =
      subst (λ us. P us x) (sym (r.is ∙ ap (λ us. r.front ++ us) r.ends.empty ∙ append-nil r.front))
      (subst (λ y. P r.front y) (sym r.ends.is) r.begins)

  with_end : (ts : List Located) (x : A) → P ts x → Whole ts x
  with_end ts x p = record { front = ts; back = []; is = sym (append-nil ts); part = x; begins = p; ends = record { empty = refl; is = refl } }

-- of a grammar's parser: its law, and that readings of scalars are read alike
module _ {S A : Type 0} (Trees : Reading S → Rel A) (p : Reading S → Parser A) {starts stops : Kinds}
    (law : (r : Reading S) (n : ℕ) → Law (BadScalar r) (GoodScalar r) true starts stops (Trees r) n (p r))
    (free : stops k.EndOfFile ≡ false) (twins : (q r : Reading S) → Twins q r (p q) (p r)) (some : S) where
  abbrev stops_whole : Kinds
  stops_whole = either not_end stops

  law_whole : (r : Reading S) (n : ℕ) → Law (BadScalar r) (GoodScalar r) true starts stops_whole (Trees r) n (whole (p r))
  law_whole r n = law_is (BadScalar r) (GoodScalar r) (alone (Trees r)) (with_end (Trees r))
      (law_bind (BadScalar r) (GoodScalar r) refl (law r n) (λ x. law_finished x (BadScalar r) (GoodScalar r)))

  twins_whole : (q r : Reading S) → Twins q r (whole (p q)) (whole (p r))
  twins_whole q r = twins_bind q r (twins q r) (λ x y. twins_finished q r x y)

  ends_there : (r : Reading S) (i j : Input) (x : A) → whole (p r) i ≡ Ok (x, j) → only k.EndOfFile (kind_ahead j.ahead) ≡ true
  ends_there r i j x read =
      let u = ran_before (p r i) (λ y. finished y) (x, j) read in
      finished_end u.0.0 u.0.1 j x u.2

  module _ (r : Reading S) (text : List ℕ) (i j : Input) (start : IsStart text i) where
    -- what is read of a text is what the text is
    text_read : (x : A) → whole (p r) i ≡ Ok (x, j) → IsText r Trees text x
    text_read x read =
        let s = spelled r (Trees r) (whole (p r)) (law_whole r) free i x j read in
        let none = nothing_left j.ahead (no_end_behind s.tokens j.ahead (subst (λ us. NoEnd us) s.front start.no_end)) (ends_there r i j x read) in
        let same : i.ahead ≡ s.tokens = s.front ∙ ap (λ us. s.tokens ++ us) none ∙ append-nil s.tokens in
        record { tokens = i.ahead; finish = i.finish; cut = start.divided; spells = subst (λ us. Trees r us x) (sym same) s.spells }

    -- where nothing is read, the text's first fault
    text_faulty : (e : Fault) → whole (p r) i ≡ Err e → IsUngrammatical r Trees text e
    text_faulty e read = record {
      tokens = i.ahead;
      finish = i.finish;
      cut = start.divided;
      first = subst (λ (s : Input). FirstFaultyToken r Trees s e) (start_is text i start)
          (first_fault Trees (λ q. whole (p q)) law_whole free twins_whole some r i e read);
    }

    pub told_text : (o : Result A Fault) → Reads (whole (p r) i) o j → IfOk o (λ x. IsText r Trees text x)
    told_text (Ok x) read = text_read x read
    told_text (Err e) read = tt

    pub told_fault : (o : Result A Fault) → Reads (whole (p r) i) o j → IfErr o (λ e. e.item ≢ Memory → IsRefused r Trees text e)
    told_fault (Ok x) read = tt
    told_fault (Err e) read = λ told. inr (text_faulty e (read told))

-- ---- the end of the text, in code

module _ {A : Type 0} (p : Parser A) (i : Input) where
  pub whole_refused : {e : Fault} → p i ≡ Err e → whole p i ≡ Err e
  whole_refused refused = ap (λ (o : Outcome A). and_then o (λ x. finished x)) refused

  pub whole_read : {j : Input} {x : A} → p i ≡ Ok (x, j) → sees (only k.EndOfFile) j ≡ true → whole p i ≡ Ok (x, j)
  whole_read {j} {x} read seen = ap (λ (o : Outcome A). and_then o (λ y. finished y)) read ∙ when_yes (only k.EndOfFile) (pure x) refuse j seen

  pub whole_goes_on : {j : Input} {x : A} → p i ≡ Ok (x, j) → sees (only k.EndOfFile) j ≡ false → whole p i ≡ Err (refusal j)
  whole_goes_on {j} {x} read seen = ap (λ (o : Outcome A). and_then o (λ y. finished y)) read ∙ when_no (only k.EndOfFile) (pure x) refuse j seen
