-- The tokens of a text divide it as the grammar says, and its first fault breaks it as the grammar says.
use Rattle.std.proofs.Common.{◌≡◌, ℕ, ◌+◌, Bool, true, false, cond, ◌==◌, List, [], ◌∷◌, ◌++◌, length, fold, suc, sym, subst, ap, ◌∙◌, refl, Result, Ok, Err, append_assoc, arith}
use Rattle.std.proofs.lemmas.List.{append-nil}
use Rattle.graphql_text.specs.declared.position.SourcePosition.{SourcePosition}
use Rattle.graphql_text.specs.declared.token.Token.{Token}
use Rattle.graphql_text.specs.declared.token.Token.TheVariants.{Name, Scalar, ExclamationMark, Dollar, ParenOpen, ParenClose, BracketOpen, BracketClose, CurlyOpen, CurlyClose, Ellipsis, Colon, Equals, At, Pipe, EndOfFile}
use Rattle.graphql_text.specs.Position.{origin, step, next_line, next_column, column_from, position_of}
use Rattle.graphql_text.specs.Reading.{Place, Refusal, ◌>>=◌, start_of}
use Rattle.graphql_text.specs.Tokens.{Located, token, ahead, cut, is_end, Runs, Tokens, FirstFault}
use Rattle.graphql_text.specs.Grammar.{Ends, IsFault, IsGap, gap_of, Heads, Divides, IsDivided, IsBroken}
use Rattle.graphql_lexer.proofs.Leading.{advance, advance-append}
use Rattle.graphql_lexer.proofs.Readings.{Goes, DoneOrFails}
use Rattle.graphql_lexer.proofs.SoundTokens.{TokenRead, token_reads, GapRead, ahead_reads, gap_is}

-- ---- positions

abbrev lines_on : ℕ → List ℕ → ℕ
lines_on n cs = fold (λ a c. a + cond (c == 10) 1 0) n cs

abbrev advanced : SourcePosition → List ℕ → SourcePosition
advanced p cs = record { index = p.index + length cs; line = lines_on p.line cs; column = column_from p.column cs }

advanced_step : (b : Bool) (p : SourcePosition) (cs : List ℕ) → advanced (cond b (next_line p) (next_column p)) cs ≡ record { index = p.index + suc (length cs); line = lines_on (p.line + cond b 1 0) cs; column = cond b (column_from 0 cs) (column_from (p.column + 1) cs) }
advanced_step true p cs =
    let i : (p.index + 1) + length cs ≡ p.index + suc (length cs) = omega arith in
    let f : ℕ → SourcePosition = λ i. record { index = i; line = lines_on (p.line + 1) cs; column = column_from 0 cs } in
    ap f i
advanced_step false p cs =
    let i : (p.index + 1) + length cs ≡ p.index + suc (length cs) = omega arith in
    let l : p.line ≡ p.line + 0 = omega arith in
    let f : ℕ → SourcePosition = λ i. record { index = i; line = lines_on p.line cs; column = column_from (p.column + 1) cs } in
    let g : ℕ → SourcePosition = λ n. record { index = p.index + suc (length cs); line = lines_on n cs; column = column_from (p.column + 1) cs } in
    ap f i ∙ ap g l

advance_is : (p : SourcePosition) (cs : List ℕ) → advance p cs ≡ advanced p cs
advance_is p [] = let f : ℕ → SourcePosition = λ i. record { index = i; line = p.line; column = p.column } in let i : p.index ≡ p.index + 0 = omega arith in ap f i
advance_is p (c ∷ cs) = advance_is (step p c) cs ∙ advanced_step (c == 10) p cs

pub advance_origin : (cs : List ℕ) → advance origin cs ≡ position_of cs
advance_origin cs =
    let f : ℕ → SourcePosition = λ i. record { index = i; line = lines_on 0 cs; column = column_from 0 cs } in
    let i : 0 + length cs ≡ length cs = omega arith in
    advance_is origin cs ∙ ap f i

-- ---- one token

-- a token that was cut behind these characters
record CutRead (before : List ℕ) (p : Place) (x : Located × Place) : Type 0 where
  pub after : List ℕ
  pub heads : Heads before p.rest x.0 after x.1.rest
  pub at : x.1.at ≡ advance origin after

-- a fault behind these characters
record CutFails (before : List ℕ) (p : Place) (e : Refusal) : Type 0 where
  pub gap : List ℕ
  pub own : List ℕ
  pub behind : List ℕ
  pub is : p.rest ≡ gap ++ (own ++ behind)
  pub gap_is : IsGap gap (own ++ behind)
  pub fault : IsFault e.item own behind
  pub start : e.span.start ≡ position_of ((before ++ gap) ++ own)
  pub end : e.span.end ≡ position_of ((before ++ gap) ++ own)

abbrev CutMeets : List ℕ → Place → Result (Located × Place) Refusal → Type 0
CutMeets before p (Ok x) = CutRead before p x
CutMeets before p (Err e) = CutFails before p e

counted : (before : List ℕ) (p q : Place) (front : List ℕ) → p.at ≡ advance origin before → Goes p front q → q.at ≡ advance origin (before ++ front)
counted before p q front at g = g.counts ∙ ap (λ z. advance z front) at ∙ sym (advance-append origin before front)

cut_reads : (before : List ℕ) (p : Place) → p.at ≡ advance origin before → CutMeets before p (cut p)
unfolding cut
cut_reads before p at = on (token (ahead p)) (token_reads (ahead p)) (ahead_reads p)
  where
    on : (r : Result (Token × Place) Refusal) → DoneOrFails (ahead p) (λ r. r.1) TokenRead IsFault r → GapRead p (ahead p) → CutMeets before p (r >>= (λ r. Ok (record { item = r.0; span = record { start = (ahead p).at; end = r.1.at } }, r.1)))
    on (Ok r) d g =
        let gap = gap_of g.ignored in
        let start = counted before p (ahead p) gap at g.goes in
        let end = counted (before ++ gap) (ahead p) r.1 d.front start d.goes in
        let P : List ℕ → Type 0 = λ z. IsGap gap z in
        record {
          after = (before ++ gap) ++ d.front;
          heads = record { gap = gap; own = d.front; is = g.goes.is ∙ ap (λ z. gap ++ z) d.goes.is; after_is = refl; gap_is = subst P d.goes.is (gap_is p (ahead p) g); spells = d.good.0; ends = d.good.1; start = start ∙ advance_origin (before ++ gap); end = end ∙ advance_origin ((before ++ gap) ++ d.front) };
          at = end;
        }
    on (Err e) d g =
        let gap = gap_of g.ignored in
        let start = counted before p (ahead p) gap at g.goes in
        let stop = counted (before ++ gap) (ahead p) d.stop d.front start d.goes ∙ advance_origin ((before ++ gap) ++ d.front) in
        let P : List ℕ → Type 0 = λ z. IsGap gap z in
        record { gap = gap; own = d.front; behind = d.stop.rest; is = g.goes.is ∙ ap (λ z. gap ++ z) d.goes.is; gap_is = subst P d.goes.is (gap_is p (ahead p) g); fault = d.fault; start = d.start ∙ stop; end = d.end ∙ stop }

cut_ok : (before : List ℕ) (p : Place) (t : Located) (q : Place) → p.at ≡ advance origin before → cut p ≡ Ok (t, q) → CutRead before p (t, q)
cut_ok before p t q at e = subst (CutMeets before p) e (cut_reads before p at)

cut_err : (before : List ℕ) (p : Place) (f : Refusal) → p.at ≡ advance origin before → cut p ≡ Err f → CutFails before p f
cut_err before p f at e = subst (CutMeets before p) e (cut_reads before p at)

-- ---- whole texts

record RunRead (before : List ℕ) (p : Place) (ts : List Located) (q : Place) : Type 0 where
  pub after : List ℕ
  pub divides : Divides before p.rest ts after q.rest
  pub at : q.at ≡ advance origin after

runs_read : (before : List ℕ) (p : Place) (ts : List Located) (q : Place) → p.at ≡ advance origin before → Runs p ts q → RunRead before p ts q
runs_read before p [] q at e = record { after = before; divides = (refl, ap (λ z. z.rest) e); at = sym (ap (λ z. z.at) e) ∙ at }
runs_read before p (t ∷ ts) q at (r, is, goes, runs) =
    let c = cut_ok before p t r at is in
    let d = runs_read c.after r ts q c.at runs in
    record { after = d.after; divides = (c.after, r.rest, c.heads, goes, d.divides); at = d.at }

pub heads_text : (before rest : List ℕ) (t : Located) (after behind : List ℕ) → Heads before rest t after behind → before ++ rest ≡ after ++ behind
heads_text before rest t after behind h =
    ap (λ z. before ++ z) h.is ∙ sym (append_assoc before h.gap (h.own ++ behind)) ∙ sym (append_assoc (before ++ h.gap) h.own behind) ∙ ap (λ z. z ++ behind) (sym h.after_is)

pub divides_text : (before rest : List ℕ) (ts : List Located) (after behind : List ℕ) → Divides before rest ts after behind → before ++ rest ≡ after ++ behind
divides_text before rest [] after behind d = cc
divides_text before rest (t ∷ ts) after behind (middle, more, h, goes, d) = heads_text before rest t middle more h ∙ divides_text middle more ts after behind d

end_is_last : (t : Token) (cs rest : List ℕ) → is_end t ≡ true → Ends t cs rest → rest ≡ []
end_is_last EndOfFile cs rest h e = e
end_is_last (Name s) cs rest h e = absurd (cc)
end_is_last (Scalar s) cs rest h e = absurd (cc)
end_is_last ExclamationMark cs rest h e = absurd (cc)
end_is_last Dollar cs rest h e = absurd (cc)
end_is_last ParenOpen cs rest h e = absurd (cc)
end_is_last ParenClose cs rest h e = absurd (cc)
end_is_last BracketOpen cs rest h e = absurd (cc)
end_is_last BracketClose cs rest h e = absurd (cc)
end_is_last CurlyOpen cs rest h e = absurd (cc)
end_is_last CurlyClose cs rest h e = absurd (cc)
end_is_last Ellipsis cs rest h e = absurd (cc)
end_is_last Colon cs rest h e = absurd (cc)
end_is_last Equals cs rest h e = absurd (cc)
end_is_last At cs rest h e = absurd (cc)
end_is_last Pipe cs rest h e = absurd (cc)

pub tokens_divide : (text : List ℕ) (ts : List Located) → Tokens text ts → IsDivided text ts
tokens_divide text ts t =
    let r = runs_read [] (start_of text) t.front t.before refl t.runs in
    let c = cut_ok r.after t.before t.last t.after r.at t.ends in
    let none : t.after.rest ≡ [] = end_is_last t.last.item c.heads.own t.after.rest t.end c.heads.ends in
    let whole : text ≡ c.after = divides_text [] text t.front r.after t.before.rest r.divides ∙ heads_text r.after t.before.rest t.last c.after t.after.rest c.heads ∙ ap (λ z. c.after ++ z) none ∙ append-nil c.after in
    let P : List ℕ → Type 0 = λ z. Heads r.after t.before.rest t.last c.after z in
    let Q : List ℕ → Type 0 = λ z. Heads r.after t.before.rest t.last z [] in
    record { front = t.front; last = t.last; is = t.is; before = r.after; rest = t.before.rest; divides = r.divides; heads = subst Q (sym whole) (subst P none c.heads); end = t.end }

pub fault_breaks : (text : List ℕ) (e : Refusal) → FirstFault text e → IsBroken text e
fault_breaks text e f =
    let r = runs_read [] (start_of text) f.front f.before refl f.runs in
    let c = cut_err r.after f.before e r.at f.refuses in
    record { front = f.front; before = r.after; rest = f.before.rest; divides = r.divides; gap = c.gap; own = c.own; behind = c.behind; is = c.is; gap_is = c.gap_is; fault = c.fault; start = c.start; end = c.end }
