-- How a type reference is read without going down.
use Rattle.std.proofs.Common.{◌≡◌, ◌+◌, ◌-◌, ◌<◌, ◌≤◌, ℕ, suc, Bool, true, false, List, [], ◌∷◌, ◌++◌, length, Ok, Err, None, refl, sym, ap, ◌∙◌, arith}
use Rattle.graphql_text.specs.declared.position.SourcePosition.{SourcePosition}
use Rattle.graphql_text.specs.declared.position.Span.{Span}
use Rattle.graphql_names.specs.declared.type_modifier.TypeModifier.{TypeModifier}
use Rattle.graphql_names.specs.declared.type_modifier.TypeModifier.TheVariants as m
use Rattle.graphql_grammar.specs.declared.kind.Kind.TheVariants as k
use Rattle.graphql_grammar.specs.Kinds.{kind, only}
use Rattle.graphql_grammar.specs.Input.{At, Input, Located, Fault, Parser, Outcome, and_then, ◌>>=◌, pure, first, peek, peek_kind, next, left}
use Rattle.graphql_grammar.specs.Steps.{sees, expect, name, with_place}
use Rattle.graphql_grammar.specs.Cursor.{after}
use Rattle.graphql_grammar.proofs.Cursors.{after_yes, after_no, token_yes, left_next}
use Rattle.graphql_grammar.proofs.Parts.{then_read, then_refused, when_yes, when_no, located_read, located_refused}
use Rattle.graphql_value_syntax.specs.ReadTypes.{TypeRef, plain, with_wrap, list_type, nullable_type, bare_type, type_ref}
use Rattle.graphql_value_syntax.specs.ReadWraps.{marked, closing_brackets, behind, inside, of}
use Rattle.graphql_value_syntax.proofs.TypeDepth.{type_unfolds}

-- ---- opening brackets

-- behind one more opening bracket
listed : TypeRef → Parser TypeRef
listed t = expect k.BracketClose >>= (λ u. marked (with_wrap (m.List None) t))

abbrev opened : ℕ → Parser TypeRef
opened depth = bare_type type_ref >>= closing_brackets depth

closed_more : (depth : ℕ) (t : TypeRef) (o : Outcome (Unit {0})) → and_then (and_then (and_then o (λ w. pure (with_wrap (m.List None) t))) marked) (closing_brackets depth)
    ≡ and_then o (λ u. marked (with_wrap (m.List None) t) >>= closing_brackets depth)
closed_more depth t (Ok p) = refl
closed_more depth t (Err e) = refl

opened_more : (depth : ℕ) (j : Input) (o : Outcome TypeRef)
    → and_then (and_then (and_then (and_then o (with_place j)) (λ t. expect k.BracketClose >>= (λ w. pure (list_type t)))) marked) (closing_brackets depth) ≡ and_then o (closing_brackets (suc depth))
unfolding closing_brackets
opened_more depth j (Ok p) = closed_more depth p.0 (expect k.BracketClose p.1)
opened_more depth j (Err e) = refl

bracket_read : (i : Input) → sees (only k.BracketOpen) i ≡ true → expect k.BracketOpen i ≡ Ok (tt {0}, next i)
bracket_read i e = token_yes (only k.BracketOpen) (λ x. tt {0}) i e

listed_is : (i : Input) → sees (only k.BracketOpen) i ≡ true → nullable_type type_ref i ≡ and_then (and_then (bare_type type_ref (next i)) (with_place (next i))) (λ t. expect k.BracketClose >>= (λ w. pure (list_type t)))
listed_is i e =
    when_yes (only k.BracketOpen) (expect k.BracketOpen >>= (λ u. type_ref >>= (λ t. expect k.BracketClose >>= (λ w. pure (list_type t))))) (name >>= (λ n. pure (plain n))) i e
    ∙ then_read (expect k.BracketOpen) (λ u. type_ref >>= (λ t. expect k.BracketClose >>= (λ w. pure (list_type t)))) (bracket_read i e)
    ∙ ap (λ (o : Outcome (At TypeRef)). and_then o (λ t. expect k.BracketClose >>= (λ w. pure (list_type t)))) (type_unfolds (next i))

bare_is : (i : Input) → bare_type type_ref i ≡ and_then (nullable_type type_ref i) marked
unfolding bare_type
bare_is i = refl

bracket_more : (depth : ℕ) (i : Input) → sees (only k.BracketOpen) i ≡ true → opened depth i ≡ opened (suc depth) (next i)
bracket_more depth i e =
    ap (λ (o : Outcome TypeRef). and_then o (closing_brackets depth)) (bare_is i)
    ∙ ap (λ (o : Outcome TypeRef). and_then (and_then o marked) (closing_brackets depth)) (listed_is i e)
    ∙ opened_more depth (next i) (bare_type type_ref (next i))

named_more : (depth : ℕ) (o : Outcome (List ℕ)) → and_then (and_then (and_then o (λ n. pure (plain n))) marked) (closing_brackets depth) ≡ and_then o (behind depth)
named_more depth (Ok p) = refl
named_more depth (Err e) = refl

bracket_none : (depth : ℕ) (i : Input) → sees (only k.BracketOpen) i ≡ false → opened depth i ≡ inside depth i
bracket_none depth i e =
    ap (λ (o : Outcome TypeRef). and_then o (closing_brackets depth)) (bare_is i)
    ∙ ap (λ (o : Outcome TypeRef). and_then (and_then o marked) (closing_brackets depth))
    (when_no (only k.BracketOpen) (expect k.BracketOpen >>= (λ u. type_ref >>= (λ t. expect k.BracketClose >>= (λ w. pure (list_type t))))) (name >>= (λ n. pure (plain n))) i e)
    ∙ named_more depth (name i)

-- at the start no bracket was read
closed_none : (o : Outcome TypeRef) → and_then o (closing_brackets 0) ≡ o
unfolding closing_brackets
closed_none (Ok p) = refl
closed_none (Err e) = refl

pub brackets_start : (i : Input) → bare_type type_ref i ≡ opened 0 i
brackets_start i = sym (closed_none (bare_type type_ref i))

pub brackets_more : {o : Outcome TypeRef} (depth : ℕ) (i : Input) {j : Input} {b : Bool} → o ≡ opened depth i → b ≡ sees (only k.BracketOpen) i → b ≡ true → j ≡ after (only k.BracketOpen) i → o ≡ opened (depth + 1) j
brackets_more depth i so asked is moved =
    let e = sym asked ∙ is in
    let more : suc depth ≡ depth + 1 = omega arith in
    so ∙ bracket_more depth i e ∙ ap (λ d. opened d (next i)) more ∙ ap (opened (depth + 1)) (sym (moved ∙ after_yes (only k.BracketOpen) i e))

pub brackets_end : {o : Outcome TypeRef} (depth : ℕ) (i : Input) {j : Input} {b : Bool} → o ≡ opened depth i → b ≡ sees (only k.BracketOpen) i → b ≡ false → j ≡ after (only k.BracketOpen) i → o ≡ inside depth j
brackets_end depth i so asked is moved =
    let e = sym asked ∙ is in
    so ∙ bracket_none depth i e ∙ ap (inside depth) (sym (moved ∙ after_no (only k.BracketOpen) i e))

pub bracket_fewer : (i : Input) {j : Input} {b : Bool} → b ≡ sees (only k.BracketOpen) i → b ≡ true → j ≡ after (only k.BracketOpen) i → left j ≡ left i - 1
bracket_fewer i asked is moved = ap left (moved ∙ after_yes (only k.BracketOpen) i (sym asked ∙ is)) ∙ left_next i

none_ahead : (f : Span) (xs : List Located) → length xs ≡ 0 → only k.BracketOpen (kind (first f xs).item) ≡ false
none_ahead f [] e = refl
none_ahead f (x ∷ xs) e = absurd (omega arith)

pub brackets_all : {o : Outcome TypeRef} (depth : ℕ) (i : Input) → o ≡ opened depth i → left i ≡ 0 → o ≡ inside depth i
unfolding sees peek_kind peek
brackets_all depth i so none = so ∙ bracket_none depth i (none_ahead i.finish i.ahead none)

-- ---- what wraps a type

pub mark_read : (n : List ℕ) (ms : List TypeModifier) (i : Input) {more : List TypeModifier} {j : Input} {b : Bool} → b ≡ sees (only k.ExclamationMark) i → b ≡ true → j ≡ after (only k.ExclamationMark) i
    → more ≡ ms ++ m.NonNull ∷ [] → marked (of n ms) i ≡ Ok (of n more, j)
mark_read n ms i {more = more} asked is moved kept =
    let e = sym asked ∙ is in
    when_yes (only k.ExclamationMark) (expect k.ExclamationMark >>= (λ u. pure (with_wrap m.NonNull (of n ms)))) (pure (of n ms)) i e
    ∙ then_read (expect k.ExclamationMark) (λ u. pure (with_wrap m.NonNull (of n ms))) (token_yes (only k.ExclamationMark) (λ x. tt {0}) i e)
    ∙ ap (λ (ws : List TypeModifier). Ok (of n ws, next i)) (sym kept) ∙ ap (λ (z : Input). Ok (of n more, z)) (sym (moved ∙ after_yes (only k.ExclamationMark) i e))

pub mark_none : (n : List ℕ) (ms : List TypeModifier) (i : Input) {j : Input} {b : Bool} → b ≡ sees (only k.ExclamationMark) i → b ≡ false → j ≡ after (only k.ExclamationMark) i → marked (of n ms) i ≡ Ok (of n ms, j)
mark_none n ms i asked is moved =
    let e = sym asked ∙ is in
    when_no (only k.ExclamationMark) (expect k.ExclamationMark >>= (λ u. pure (with_wrap m.NonNull (of n ms)))) (pure (of n ms)) i e
    ∙ ap (λ (z : Input). Ok (of n ms, z)) (sym (moved ∙ after_no (only k.ExclamationMark) i e))

-- at turn `at` of `depth`, with these wraps found, at this place
pub record WrapsLeft (o : Outcome TypeRef) (depth at : ℕ) (n : List ℕ) (found : List TypeModifier) (i : Input) : Type 0 where
  pub reads : o ≡ closing_brackets (depth - at) (of n found) i

pub wraps_start : (depth : ℕ) (n : List ℕ) (i : Input) {none found : List TypeModifier} {j : Input} → none ≡ [] → marked (of n none) i ≡ Ok (of n found, j)
    → WrapsLeft (behind depth n i) depth 0 n found j
wraps_start depth n i {found = found} {j = j} empty read =
    let all : depth ≡ depth - 0 = omega arith in
    let reads = ap (λ (ms : List TypeModifier). marked (of n ms) i) (sym empty) ∙ read in
    record { reads = then_read (marked (plain n)) (closing_brackets depth) reads ∙ ap (λ d. closing_brackets d (of n found) j) all }

closed_turn : (depth at : ℕ) (n : List ℕ) (found : List TypeModifier) (i : Input) → at < depth
    → closing_brackets (depth - at) (of n found) i ≡ and_then (expect k.BracketClose i) (λ u. marked (of n (found ++ m.List None ∷ [])) >>= closing_brackets (depth - (at + 1)))
unfolding closing_brackets
closed_turn depth at n found i below =
    let turn : depth - at ≡ suc (depth - (at + 1)) = omega arith in
    ap (λ d. closing_brackets d (of n found) i) turn

-- a list was closed, and marked or not
pub wraps_more : {o : Outcome TypeRef} {depth at : ℕ} {n : List ℕ} {found listed more : List TypeModifier} {i j l : Input} → WrapsLeft o depth at n found i → at < depth
    → expect k.BracketClose i ≡ Ok (tt {0}, j) → listed ≡ found ++ m.List None ∷ [] → marked (of n listed) j ≡ Ok (of n more, l) → WrapsLeft o depth (at + 1) n more l
wraps_more {depth = depth} {at = at} {n = n} {found = found} {listed = listed} {i = i} {j = j} w below read kept mark =
    record {
      reads = w.reads ∙ closed_turn depth at n found i below
          ∙ then_read (expect k.BracketClose) (λ u. marked (of n (found ++ m.List None ∷ [])) >>= closing_brackets (depth - (at + 1))) read
          ∙ ap (λ (ws : List TypeModifier). and_then (marked (of n ws) j) (closing_brackets (depth - (at + 1)))) (sym kept)
          ∙ then_read (marked (of n listed)) (closing_brackets (depth - (at + 1))) mark;
    }

pub wraps_refused : {o : Outcome TypeRef} {depth at : ℕ} {n : List ℕ} {found : List TypeModifier} {i : Input} {e : Fault} → WrapsLeft o depth at n found i → at < depth → expect k.BracketClose i ≡ Err e → o ≡ Err e
wraps_refused {depth = depth} {at = at} {n = n} {found = found} {i = i} w below fails =
    w.reads ∙ closed_turn depth at n found i below ∙ then_refused (expect k.BracketClose) (λ u. marked (of n (found ++ m.List None ∷ [])) >>= closing_brackets (depth - (at + 1))) fails

pub wraps_end : {o : Outcome TypeRef} {depth at : ℕ} {n : List ℕ} {found : List TypeModifier} {i : Input} → WrapsLeft o depth at n found i → depth ≤ at → o ≡ Ok (of n found, i)
unfolding closing_brackets
wraps_end {depth = depth} {at = at} {n = n} {found = found} {i = i} w done =
    let none : depth - at ≡ 0 = omega arith in
    w.reads ∙ ap (λ d. closing_brackets d (of n found) i) none

-- ---- the whole

pub type_read : (i : Input) (depth : ℕ) (j : Input) {l h : Input} {n : List ℕ} {t : TypeRef} {y : At TypeRef} {start : SourcePosition} → bare_type type_ref i ≡ inside depth j → name j ≡ Ok (n, l) → behind depth n l ≡ Ok (t, h)
    → start ≡ (peek i).span.start → y ≡ record { item = t; span = record { start = start; end = h.end } } → type_ref i ≡ Ok (y, h)
type_read i depth j is named read begins made = type_unfolds i ∙ located_read (bare_type type_ref) (is ∙ then_read name (behind depth) named ∙ read) begins made

pub type_fails : (i : Input) (depth : ℕ) (j : Input) {l : Input} {n : List ℕ} {e : Fault} → bare_type type_ref i ≡ inside depth j → name j ≡ Ok (n, l) → behind depth n l ≡ Err e → type_ref i ≡ Err e
type_fails i depth j is named fails = type_unfolds i ∙ located_refused (bare_type type_ref) (is ∙ then_read name (behind depth) named ∙ fails)

pub type_fails_first : (i : Input) (depth : ℕ) (j : Input) {e : Fault} → bare_type type_ref i ≡ inside depth j → name j ≡ Err e → type_ref i ≡ Err e
type_fails_first i depth j is fails = type_unfolds i ∙ located_refused (bare_type type_ref) (is ∙ then_refused name (behind depth) fails)
