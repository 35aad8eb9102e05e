-- The tokens of a text rise, so that those within the span of some of them are these.
use Rattle.std.proofs.Common.{◌≡◌, refl, sym, ◌∙◌, ap, subst, ℕ, ◌<◌, ◌≤◌, arith, Bool, true, false, ◌&&◌, List, [], ◌∷◌, ◌++◌, length, length-append, cond}
use Rattle.std.specs.Prelude.{nat_le}
use Rattle.std.specs.List.{filter}
use Rattle.std.proofs.lemmas.Bool.Decides.{nat_tests}
use Rattle.graphql_text.specs.declared.position.Span.{Span}
use Rattle.graphql_text.specs.declared.position.SourcePosition.{SourcePosition}
use Rattle.graphql_text.specs.Tokens.{Located}
use Rattle.graphql_text.specs.Grammar.{Divides, IsDivided}
use Rattle.graphql_grammar.specs.Relations.{end_of, span_of}
use Rattle.graphql_lexer.specs.Within.{is_within, within}
use Rattle.graphql_lexer.proofs.DividedLaws.{spelled_some}

-- each begins no sooner than the one before it ends, and ends behind where it begins
abbrev pub Climb : ℕ → List Located → Type 0
Climb from [] = Unit {0}
Climb from (t ∷ ts) =
    (from ≤ t.span.start.index) × (t.span.start.index < t.span.end.index)
    × Climb t.span.end.index ts

rise : (before rest : List ℕ) (ts : List Located) (after behind : List ℕ)
    → Divides before rest ts after behind → Climb (length before) ts
rise before rest [] after behind d = tt
rise before rest (t ∷ ts) after behind (middle, more, h, goes, d) =
    let some = spelled_some t.item h.own h.spells goes in
    let start : t.span.start.index ≡ length (before ++ h.gap) =
    ap (λ (p : SourcePosition). p.index) h.start in
    let end : t.span.end.index ≡ length middle = ap (λ (p : SourcePosition). p.index) h.end in
    let whole : length middle ≡ length ((before ++ h.gap) ++ h.own) = ap length h.after_is in
    let others = subst (λ n. Climb n ts) (sym end) (rise middle more ts after behind d) in (
      omega (arith, length-append before h.gap),
      omega (arith, length-append (before ++ h.gap) h.own),
      others,
    )

-- lists are the same that are so with one token more
pub same_push : (ts us : List Located) (a b : Located) → ts ++ a ∷ [] ≡ us ++ b ∷ [] → ts ≡ us
same_push [] [] a b h = refl
same_push [] (u ∷ []) a b h = absurd (cc)
same_push [] (u ∷ v ∷ us) a b h = absurd (cc)
same_push (t ∷ []) [] a b h = absurd (cc)
same_push (t ∷ s ∷ ts) [] a b h = absurd (cc)
same_push (t ∷ ts) (u ∷ us) a b h =
    let one : t ≡ u = cc in
    let more : ts ++ a ∷ [] ≡ us ++ b ∷ [] = cc in
    let r = same_push ts us a b more in
    λ i. one i ∷ r i

pub tokens-rise : (text : List ℕ) (ts : List Located) (last : Located)
    → IsDivided text (ts ++ last ∷ []) → Climb 0 ts
tokens-rise text ts last d =
    subst (Climb 0) (sym (same_push ts d.front last d.last d.is))
    (rise [] text d.front d.before d.rest d.divides)

-- ---- within a span

le-test : (m n : ℕ) → m ≤ n → nat_le m n ≡ true
le-test m n h = grind (arith, nat_tests)

gt-test : (m n : ℕ) → n < m → nat_le m n ≡ false
gt-test m n h = grind (arith, nat_tests)

and-false : (b : Bool) → (b && false) ≡ false
and-false true = refl
and-false false = refl

module _ (s : Span) where
  abbrev test : Located → Bool
  test = is_within s

  -- where the first of those behind begins
  reaches : (front : List Located) (a : Located) (ys : List Located) (from : ℕ)
      → Climb from (front ++ a ∷ ys) → from ≤ a.span.start.index
  reaches [] a ys from h = h.0
  reaches (t ∷ ts) a ys from h =
      let r = reaches ts a ys t.span.end.index h.2 in let h0 = h.0 in let h1 = h.1 in omega arith

  -- none of those in front of where the span begins
  not-before : (front : List Located) (a : Located) (ys : List Located) (from : ℕ)
      → Climb from (front ++ a ∷ ys) → s.start.index ≡ a.span.start.index
      → filter test (front ++ a ∷ ys) ≡ filter test (a ∷ ys)
  not-before [] a ys from h e = refl
  not-before (t ∷ ts) a ys from h e =
      let r = reaches ts a ys t.span.end.index h.2 in let h1 = h.1 in
      let sooner : nat_le s.start.index t.span.start.index ≡ false =
      gt-test s.start.index t.span.start.index (omega arith) in
      ap (λ b. cond (b && nat_le t.span.end.index s.end.index) (t ∷ filter test (ts ++ a ∷ ys))
      (filter test (ts ++ a ∷ ys))) sooner ∙ not-before ts a ys t.span.end.index h.2 e

  -- where the last ends
  last-end : (us ys : List Located) (p : SourcePosition) → Climb p.index (us ++ ys)
      → p.index ≤ (end_of p us).index
  last-end [] ys p h = omega arith
  last-end (t ∷ ts) ys p h =
      let r = last-end ts ys t.span.end h.2 in let h0 = h.0 in let h1 = h.1 in omega arith

  -- none of those behind where it ends
  not-behind : (ys : List Located) (from : ℕ) → Climb from ys → s.end.index ≤ from
      → filter test ys ≡ []
  not-behind [] from h e = refl
  not-behind (t ∷ ts) from h e =
      let h0 = h.0 in let h1 = h.1 in
      let later : nat_le t.span.end.index s.end.index ≡ false =
      gt-test t.span.end.index s.end.index (omega arith) in
      ap (λ b. cond b (t ∷ filter test ts) (filter test ts))
      (ap (λ b. nat_le s.start.index t.span.start.index && b) later
      ∙ and-false (nat_le s.start.index t.span.start.index))
      ∙ not-behind ts t.span.end.index h.2 (omega arith)

  -- all of these
  all-in : (us ys : List Located) (p : SourcePosition) → Climb p.index (us ++ ys)
      → s.start.index ≤ p.index → s.end.index ≡ (end_of p us).index → filter test (us ++ ys) ≡ us
  all-in [] ys p h b e = not-behind ys p.index h (omega arith)
  all-in (t ∷ ts) ys p h b e =
      let h0 = h.0 in let h1 = h.1 in let r = last-end ts ys t.span.end h.2 in
      let one : nat_le s.start.index t.span.start.index ≡ true =
      le-test s.start.index t.span.start.index (omega arith) in
      let two : nat_le t.span.end.index s.end.index ≡ true =
      le-test t.span.end.index s.end.index (omega arith) in
      (λ i. cond (one i && two i) (t ∷ filter test (ts ++ ys)) (filter test (ts ++ ys)))
      ∙ ap (λ l. t ∷ l) (all-in ts ys t.span.end h.2 (omega arith) e)

  first-in : (a : Located) (us ys : List Located) (from : ℕ) → Climb from (a ∷ (us ++ ys))
      → s ≡ span_of a us → filter test (a ∷ (us ++ ys)) ≡ a ∷ us
  first-in a us ys from h e =
      let h0 = h.0 in let h1 = h.1 in let r = last-end us ys a.span.end h.2 in
      let begins : s.start.index ≡ a.span.start.index = ap (λ (z : Span). z.start.index) e in
      let ends : s.end.index ≡ (end_of a.span.end us).index = ap (λ (z : Span). z.end.index) e in
      let one : nat_le s.start.index a.span.start.index ≡ true =
      le-test s.start.index a.span.start.index (omega arith) in
      let two : nat_le a.span.end.index s.end.index ≡ true =
      le-test a.span.end.index s.end.index (omega arith) in
      (λ i. cond (one i && two i) (a ∷ filter test (us ++ ys)) (filter test (us ++ ys)))
      ∙ ap (λ l. a ∷ l) (all-in us ys a.span.end h.2 (omega arith) ends)

some-rise : (front ys : List Located) (from : ℕ) → Climb from (front ++ ys) → (n : ℕ) × Climb n ys
some-rise [] ys from h = (from, h)
some-rise (t ∷ ts) ys from h = some-rise ts ys t.span.end.index h.2

-- the tokens within the span of some of a text's tokens are these
pub within-self : (front : List Located) (a : Located) (us back : List Located)
    → Climb 0 (front ++ ((a ∷ us) ++ back))
    → within (front ++ ((a ∷ us) ++ back)) (span_of a us) ≡ a ∷ us
within-self front a us back h =
    let s : Span = span_of a us in
    let r = some-rise front ((a ∷ us) ++ back) 0 h in
    not-before s front a (us ++ back) 0 h refl ∙ first-in s a us back r.0 r.1 refl
