-- A token that is read is one of the grammar, and a fault in one is the grammar's.
use Rattle.std.proofs.Common.{◌≡◌, inl, inr, ℕ, Bool, true, false, cond, ◌||◌, ◌==◌, List, [], ◌∷◌, ◌++◌, sym, subst, ap, refl, Result, Ok, Err, Option, Some, None, encode_utf8_all}
use Rattle.std.proofs.lemmas.Bool.{eqb-true, eqb-false, or_parts, or_from}
use Rattle.std.specs.Char.{is_ascii_digit}
use Rattle.graphql_text.specs.declared.position.SourcePosition.{SourcePosition}
use Rattle.graphql_text.specs.declared.token.LexerError.TheVariants.{UnexpectedCharacter}
use Rattle.graphql_text.specs.declared.token.Token.{Token}
use Rattle.graphql_text.specs.declared.token.Token.TheVariants.{ExclamationMark, Dollar, ParenOpen, ParenClose, BracketOpen, BracketClose, CurlyOpen, CurlyClose, Ellipsis, Colon, Equals, At, Pipe}
use Rattle.graphql_text.specs.declared.class.Class.TheVariants as class
use Rattle.graphql_text.specs.Position.{step}
use Rattle.graphql_text.specs.Reading.{Place, Refusal, ◌>>=◌, is_in, past}
use Rattle.graphql_text.specs.Numbers.{number}
use Rattle.graphql_text.specs.Strings.{string}
use Rattle.graphql_text.specs.Tokens.{punctuator_of, point, ellipsis, name_from, punctuated, token, ahead_from, ahead}
use Rattle.graphql_text.specs.Grammar.{Each, NextIsNot, Spells, Ends, ArePoints, IsFault, Ignored, blank, comment, gap_of, AreIgnored, IsGap}
use Rattle.graphql_lexer.proofs.TextLemmas.{between_front}
use Rattle.graphql_lexer.proofs.Readings.{Goes, stays, goes_step, goes_one, Fails, DoneOrFails, reads_if, reads_on, past_reads}
use Rattle.graphql_lexer.proofs.SoundNumbers.{number_reads}
use Rattle.graphql_lexer.proofs.SoundStrings.{string_reads}

abbrev pub TokenRead : List ℕ → Token × Place → Type 0
TokenRead cs r = Spells r.0 cs × Ends r.0 cs r.1.rest

-- ---- punctuators

-- a token that is spelled by this character, and ends anywhere
abbrev IsMark : ℕ → Option Token → Type 0
IsMark c None = Unit {0}
IsMark c (Some t) = Spells t (c ∷ []) × ((rest : List ℕ) → Ends t (c ∷ []) rest)

mark_if : (c d : ℕ) (t : Token) (o : Option Token) → Spells t (d ∷ []) → ((rest : List ℕ) → Ends t (d ∷ []) rest) → IsMark c o → IsMark c (cond (c == d) (Some t) o)
mark_if c d t o s e n = on (c == d) refl
  where
    on : (b : Bool) → (c == d) ≡ b → IsMark c (cond b (Some t) o)
    on true h =
        let P : ℕ → Type 0 = λ z. Spells t (z ∷ []) × ((rest : List ℕ) → Ends t (z ∷ []) rest) in
        subst P (sym (eqb-true c d h)) (s, e)
    on false h = n

punctuator_mark : (c : ℕ) → IsMark c (punctuator_of c)
punctuator_mark c =
    mark_if c 33 ExclamationMark _ refl (λ _. tt) (mark_if c 36 Dollar _ refl (λ _. tt) (mark_if c 40 ParenOpen _ refl (λ _. tt) (mark_if c 41 ParenClose _ refl (λ _. tt)
    (mark_if c 91 BracketOpen _ refl (λ _. tt) (mark_if c 93 BracketClose _ refl (λ _. tt) (mark_if c 123 CurlyOpen _ refl (λ _. tt) (mark_if c 125 CurlyClose _ refl (λ _. tt)
    (mark_if c 58 Colon _ refl (λ _. tt) (mark_if c 61 Equals _ refl (λ _. tt) (mark_if c 64 At _ refl (λ _. tt) (mark_if c 124 Pipe None refl (λ _. tt) tt)))))))))))

punctuated_reads : (at : SourcePosition) (c : ℕ) (cs : List ℕ) → is_in class.NameStart c ≡ false → (is_ascii_digit c || c == 45) ≡ false → (c == 46) ≡ false → (c == 34) ≡ false → DoneOrFails (record { at = at; rest = c ∷ cs }) (λ r. r.1) TokenRead IsFault (punctuated (punctuator_of c) c at (record { at = step at c; rest = cs }))
punctuated_reads at c cs name number point quote = on (punctuator_of c) refl (punctuator_mark c)
  where
    on : (o : Option Token) → punctuator_of c ≡ o → IsMark c o → DoneOrFails (record { at = at; rest = c ∷ cs }) (λ r. r.1) TokenRead IsFault (punctuated o c at (record { at = step at c; rest = cs }))
    on (Some t) e m = record { front = c ∷ []; goes = goes_one at c cs; good = (m.0, m.1 cs) }
    on None e m =
        let parts = or_parts (is_ascii_digit c) (c == 45) number in
        record { front = []; stop = record { at = at; rest = c ∷ cs }; goes = stays (record { at = at; rest = c ∷ cs }); start = refl; end = refl; fault = (refl, refl, (name, parts.0, eqb-false c 45 parts.1, eqb-false c 46 point, eqb-false c 34 quote, e)) }

-- ---- three points

broken_points : (at : SourcePosition) (points more rest : List ℕ) (c : ℕ) → ArePoints points → rest ≡ points ++ c ∷ more → (c == 46) ≡ false → Fails (record { at = at; rest = rest }) IsFault (record { item = UnexpectedCharacter 46; span = record { start = at; end = at } })
broken_points at points more rest c a e h = record { front = []; stop = record { at = at; rest = rest }; goes = stays (record { at = at; rest = rest }); start = refl; end = refl; fault = inl (refl, refl, (points, c ∷ more, a, e, h, λ z. cc)) }

abbrev third_point : SourcePosition → Place → Result (Token × Place) Refusal
third_point at p = point at p >>= (λ q. Ok (Ellipsis, q))

third_reads : (at : SourcePosition) (cs : List ℕ) → DoneOrFails (record { at = at; rest = 46 ∷ 46 ∷ cs }) (λ r. r.1) TokenRead IsFault (third_point at (record { at = step (step at 46) 46; rest = cs }))
unfolding point
third_reads at [] = record { front = 46 ∷ 46 ∷ []; stop = record { at = step (step at 46) 46; rest = [] }; goes = record { is = refl; counts = refl }; start = refl; end = refl; fault = (refl, inr (inr refl)) }
third_reads at (c ∷ cs) = on (c == 46) refl
  where
    on : (b : Bool) → (c == 46) ≡ b → DoneOrFails (record { at = at; rest = 46 ∷ 46 ∷ c ∷ cs }) (λ r. r.1) TokenRead IsFault (cond b (Ok (record { at = step (step (step at 46) 46) c; rest = cs })) (Err (record { item = UnexpectedCharacter 46; span = record { start = at; end = at } })) >>= (λ q. Ok (Ellipsis, q)))
    on true h = record { front = 46 ∷ 46 ∷ c ∷ []; goes = record { is = refl; counts = refl }; good = (ap (λ z. 46 ∷ 46 ∷ z ∷ []) (eqb-true c 46 h), tt) }
    on false h = broken_points at (46 ∷ 46 ∷ []) cs (46 ∷ 46 ∷ c ∷ cs) c (inr refl) refl h

ellipsis_reads : (at : SourcePosition) (cs : List ℕ) → DoneOrFails (record { at = at; rest = 46 ∷ cs }) (λ r. r.1) TokenRead IsFault (ellipsis (record { at = at; rest = 46 ∷ cs }))
unfolding ellipsis point
ellipsis_reads at [] = record { front = 46 ∷ []; stop = record { at = step at 46; rest = [] }; goes = record { is = refl; counts = refl }; start = refl; end = refl; fault = (refl, inr (inl refl)) }
ellipsis_reads at (c ∷ cs) = on (c == 46) refl
  where
    on : (b : Bool) → (c == 46) ≡ b → DoneOrFails (record { at = at; rest = 46 ∷ c ∷ cs }) (λ r. r.1) TokenRead IsFault (cond b (Ok (record { at = step (step at 46) c; rest = cs })) (Err (record { item = UnexpectedCharacter 46; span = record { start = at; end = at } })) >>= (λ q. third_point at q))
    on true h =
        let P : ℕ → Type 0 = λ z. DoneOrFails (record { at = at; rest = 46 ∷ z ∷ cs }) (λ r. r.1) TokenRead IsFault (third_point at (record { at = step (step at 46) z; rest = cs })) in
        subst P (sym (eqb-true c 46 h)) (third_reads at cs)
    on false h = broken_points at (46 ∷ []) cs (46 ∷ c ∷ cs) c (inl refl) refl h

-- ---- tokens

pub token_reads : (p : Place) → DoneOrFails p (λ r. r.1) TokenRead IsFault (token p)
unfolding token name_from
token_reads p = on p.at p.rest
  where
    on : (at : SourcePosition) (cs : List ℕ) → DoneOrFails (record { at = at; rest = cs }) (λ r. r.1) TokenRead IsFault (token (record { at = at; rest = cs }))
    on at [] = record { front = []; goes = stays (record { at = at; rest = [] }); good = (refl, refl) }
    on at (c ∷ cs) =
        let p : Place = record { at = at; rest = c ∷ cs } in
        let q : Place = record { at = step at c; rest = cs } in
        reads_if p (λ r. r.1) TokenRead IsFault (is_in class.NameStart c) _ _
        (λ e.
        let d = past_reads class.NameContinue (step at c) cs in
        let end = past class.NameContinue (step at c) cs in
        let goes = goes_step at c cs d.front end d.goes in
        record { front = c ∷ d.front; goes = goes; good = (((e, d.each), ap encode_utf8_all (between_front (c ∷ cs) (c ∷ d.front) end.rest goes.is)), d.ends) })
        (λ name. reads_if p (λ r. r.1) TokenRead IsFault (is_ascii_digit c || c == 45) _ _ (λ e. number_reads p e)
        (λ number. reads_if p (λ r. r.1) TokenRead IsFault (c == 46) _ _
        (λ e.
        let P : ℕ → Type 0 = λ z. DoneOrFails (record { at = at; rest = z ∷ cs }) (λ r. r.1) TokenRead IsFault (ellipsis (record { at = at; rest = z ∷ cs })) in
        subst P (sym (eqb-true c 46 e)) (ellipsis_reads at cs))
        (λ dot. reads_if p (λ r. r.1) TokenRead IsFault (c == 34) _ _
        (λ e.
        let z : 34 ≡ c = sym (eqb-true c 34 e) in
        let P : ℕ → Type 0 = λ d. DoneOrFails q (λ r. r.1) (λ b x. TokenRead (d ∷ b) x) (λ e b rest. IsFault e (d ∷ b) rest) (string q) in
        reads_on p q (c ∷ []) (λ r. r.1) TokenRead IsFault (string q) (goes_one at c cs) (subst P z (string_reads q)))
        (λ quote. punctuated_reads at c cs name number dot quote))))

-- ---- what is ignored

pub record GapRead (p q : Place) : Type 0 where
  pub ignored : List Ignored
  pub goes : Goes p (gap_of ignored) q
  pub are : AreIgnored ignored q.rest
  pub no_more : NextIsNot (λ c. is_in class.Ignored c || c == 35) q.rest

-- the same within a comment, of which these characters follow
pub record CommentRead (p q : Place) : Type 0 where
  pub text : List ℕ
  pub each : Each (is_in class.Comment) text
  pub ignored : List Ignored
  pub goes : Goes p (text ++ gap_of ignored) q
  pub ends : NextIsNot (is_in class.Comment) (gap_of ignored ++ q.rest)
  pub are : AreIgnored ignored q.rest
  pub no_more : NextIsNot (λ c. is_in class.Ignored c || c == 35) q.rest

abbrev pub AheadRead : Bool → Place → Place → Type 0
AheadRead true p q = CommentRead p q
AheadRead false p q = GapRead p q

-- the place ahead, by what goes on
abbrev ahead_by : Bool → Bool → SourcePosition → ℕ → List ℕ → Place
ahead_by goes_on is_ignored at c cs = cond (goes_on || is_ignored) (ahead_from goes_on (step at c) cs) (record { at = at; rest = c ∷ cs })

in_comment : (at : SourcePosition) (c : ℕ) (cs : List ℕ) (is_comment is_start is_ignored : Bool) → is_in class.Comment c ≡ is_comment → (c == 35) ≡ is_start → is_in class.Ignored c ≡ is_ignored → ((b : Bool) → AheadRead b (record { at = step at c; rest = cs }) (ahead_from b (step at c) cs)) → CommentRead (record { at = at; rest = c ∷ cs }) (ahead_by (is_comment || is_start) is_ignored at c cs)
in_comment at c cs true is_start is_ignored e s i again =
    let d = again true in
    record { text = c ∷ d.text; each = (e, d.each); ignored = d.ignored; goes = goes_step at c cs (d.text ++ gap_of d.ignored) (ahead_from true (step at c) cs) d.goes; ends = d.ends; are = d.are; no_more = d.no_more }
in_comment at c cs false true is_ignored e s i again = absurd (let k : is_in class.Comment c ≡ true = ap (λ z. is_in class.Comment z) (eqb-true c 35 s) in cc)
in_comment at c cs false false true e s i again =
    let d = again false in
    record { text = []; each = tt; ignored = blank c ∷ d.ignored; goes = goes_step at c cs (gap_of d.ignored) (ahead_from false (step at c) cs) d.goes; ends = e; are = (i, d.are); no_more = d.no_more }
in_comment at c cs false false false e s i again =
    record { text = []; each = tt; ignored = []; goes = stays (record { at = at; rest = c ∷ cs }); ends = e; are = tt; no_more = or_from (is_in class.Ignored c) (c == 35) i s }

in_gap : (at : SourcePosition) (c : ℕ) (cs : List ℕ) (is_start is_ignored : Bool) → (c == 35) ≡ is_start → is_in class.Ignored c ≡ is_ignored → ((b : Bool) → AheadRead b (record { at = step at c; rest = cs }) (ahead_from b (step at c) cs)) → GapRead (record { at = at; rest = c ∷ cs }) (ahead_by is_start is_ignored at c cs)
in_gap at c cs true is_ignored s i again =
    let d = again true in
    let q = ahead_from true (step at c) cs in
    let P : ℕ → Type 0 = λ z. Goes (record { at = at; rest = c ∷ cs }) (z ∷ (d.text ++ gap_of d.ignored)) q in
    record { ignored = comment d.text ∷ d.ignored; goes = subst P (eqb-true c 35 s) (goes_step at c cs (d.text ++ gap_of d.ignored) q d.goes); are = (d.each, d.ends, d.are); no_more = d.no_more }
in_gap at c cs false true s i again =
    let d = again false in
    record { ignored = blank c ∷ d.ignored; goes = goes_step at c cs (gap_of d.ignored) (ahead_from false (step at c) cs) d.goes; are = (i, d.are); no_more = d.no_more }
in_gap at c cs false false s i again =
    record { ignored = []; goes = stays (record { at = at; rest = c ∷ cs }); are = tt; no_more = or_from (is_in class.Ignored c) (c == 35) i s }

ahead_from_reads : (b : Bool) (at : SourcePosition) (cs : List ℕ) → AheadRead b (record { at = at; rest = cs }) (ahead_from b at cs)
ahead_from_reads true at [] = record { text = []; each = tt; ignored = []; goes = stays (record { at = at; rest = [] }); ends = tt; are = tt; no_more = tt }
ahead_from_reads false at [] = record { ignored = []; goes = stays (record { at = at; rest = [] }); are = tt; no_more = tt }
ahead_from_reads true at (c ∷ cs) = in_comment at c cs (is_in class.Comment c) (c == 35) (is_in class.Ignored c) refl refl refl (λ b. ahead_from_reads b (step at c) cs)
ahead_from_reads false at (c ∷ cs) = in_gap at c cs (c == 35) (is_in class.Ignored c) refl refl (λ b. ahead_from_reads b (step at c) cs)

pub ahead_reads : (p : Place) → GapRead p (ahead p)
unfolding ahead
ahead_reads p = ahead_from_reads false p.at p.rest

pub gap_is : (p q : Place) → (g : GapRead p q) → IsGap (gap_of g.ignored) q.rest
gap_is p q g = record { ignored = g.ignored; is = refl; are = g.are; no_more = g.no_more }
