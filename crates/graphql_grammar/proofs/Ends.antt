-- The law of the end of the text.
use Rattle.std.proofs.Common.{◌≡◌, ℕ, inl, inr, Bool, true, false, not, List, [], ◌++◌, Ok, Err, ap, ◌∙◌, sym, refl, subst, arith}
use Rattle.graphql_text.specs.declared.position.Span.{Span}
use Rattle.graphql_text.specs.declared.position.SourcePosition.{SourcePosition}
use Rattle.graphql_grammar.specs.declared.kind.Kind.TheVariants as k
use Rattle.graphql_grammar.specs.Kinds.{Kinds, only, no_kind}
use Rattle.graphql_grammar.specs.Input.{Input, Located, Fault, pure, refuse}
use Rattle.graphql_grammar.specs.Steps.{finished}
use Rattle.graphql_grammar.specs.Ahead.{mk, Free, kind_ahead, refused_at}
use Rattle.graphql_grammar.specs.Relations.{end_of, Nothing}
use Rattle.graphql_grammar.proofs.Stops.{Stop, done, refused, Sentence, same_state}
use Rattle.graphql_grammar.proofs.Law.{Law}
use Rattle.graphql_grammar.proofs.Choices.{when_then, when_else, refusal-is}

-- every kind but the end of the text
abbrev pub not_end : Kinds
not_end = λ v. not (only k.EndOfFile v)

module _ {A : Type 0} (x : A) where
  is_end : (b : Bool) → not b ≡ false → b ≡ true
  is_end true h = refl
  is_end false h = absurd (cc)

  finished_ok : (zs : List Located) (f : Span) (e : SourcePosition) → only k.EndOfFile (kind_ahead zs) ≡ true → finished x (mk zs f e) ≡ Ok (x, mk zs f e)
  finished_ok zs f e h = when_then (only k.EndOfFile) (pure x) refuse (mk zs f e) h

  finished_err : (zs : List Located) (f : Span) (e : SourcePosition) → only k.EndOfFile (kind_ahead zs) ≡ false → finished x (mk zs f e) ≡ Err (refused_at f zs)
  finished_err zs f e h = when_else (only k.EndOfFile) (pure x) refuse (mk zs f e) h ∙ ap Err (refusal-is zs f e)

  module _ (Bad : Located → Fault → Type 0) (Good : Located → Type 0) where
    ends_sentence : Sentence Bad Good (Free not_end) (finished x)
    ends_sentence f e = record { more = []; tree = x; last = e; reads_on = λ zs h. finished_ok zs f e (is_end (only k.EndOfFile (kind_ahead zs)) h) }

    ends_stop : (b : Bool) (f : Span) (e : SourcePosition) (xs : List Located) → only k.EndOfFile (kind_ahead xs) ≡ b → Stop Bad Good 0 (Free not_end) (Nothing x) (finished x) f e xs
    ends_stop true f e xs h = done [] xs x refl (omega arith) (record { empty = refl; is = refl })
        (λ zs u. finished_ok zs f e (elim u [ inl l ↦ ap (only k.EndOfFile) (sym l) ∙ h | inr c ↦ is_end (only k.EndOfFile (kind_ahead zs)) c ]))
    ends_stop false f e xs h = refused [] xs refl (λ zs l. finished_err zs f e (ap (only k.EndOfFile) (sym l) ∙ h)) (ends_sentence f e)

    ends_begins : (b : Bool) (i j : Input) (y : A) → only k.EndOfFile (kind_ahead i.ahead) ≡ b → finished x i ≡ Ok (y, j) → j ≡ i
    ends_begins true i j y h r = sym (same_state x y i j (sym (finished_ok i.ahead i.finish i.end h) ∙ r))
    ends_begins false i j y h r = absurd (let q = sym (finished_err i.ahead i.finish i.end h) ∙ r in cc)

    pub law_finished : {n : ℕ} → Law Bad Good false no_kind not_end (Nothing x) n (finished x)
    law_finished = record {
      runs = record { stop = λ xs f e fewer. ends_stop (only k.EndOfFile (kind_ahead xs)) f e xs refl };
      reads = λ ts y r below zs c f e. subst (λ us. finished x (mk (us ++ zs) f e) ≡ Ok (y, mk zs f (end_of e us))) (sym r.empty)
          (finished_ok zs f e (is_end (only k.EndOfFile (kind_ahead zs)) c) ∙ ap (λ z. Ok (z, mk zs f e)) (sym r.is));
      size = λ ts y r below. omega arith;
      sentence = ends_sentence;
      begins = λ i j y r. inr (ends_begins (only k.EndOfFile (kind_ahead i.ahead)) i j y refl r);
    }

  end_by : (b : Bool) (i j : Input) (y : A) → only k.EndOfFile (kind_ahead i.ahead) ≡ b → finished x i ≡ Ok (y, j) → only k.EndOfFile (kind_ahead j.ahead) ≡ true
  end_by true i j y h r = subst (λ (s : Input). only k.EndOfFile (kind_ahead s.ahead) ≡ true) (same_state x y i j (sym (finished_ok i.ahead i.finish i.end h) ∙ r)) h
  end_by false i j y h r = absurd (let q = sym (finished_err i.ahead i.finish i.end h) ∙ r in cc)

  -- nothing is left behind it
  pub finished_end : (i j : Input) (y : A) → finished x i ≡ Ok (y, j) → only k.EndOfFile (kind_ahead j.ahead) ≡ true
  finished_end i j y r = end_by (only k.EndOfFile (kind_ahead i.ahead)) i j y refl r
