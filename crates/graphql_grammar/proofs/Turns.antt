-- The turns of loops that read items one behind the other, and what each leaves of the wanted outcome `o`.
use Rattle.std.proofs.Common.{◌≡◌, ℕ, zero, suc, ◌+◌, ◌-◌, ◌<◌, ◌≤◌, Bool, true, false, if◌then◌else◌, List, [], ◌∷◌, ◌++◌, length, Ok, Err, refl, sym, ap, ◌∙◌, arith}
use Rattle.graphql_text.specs.declared.position.Span.{Span}
use Rattle.graphql_grammar.specs.declared.kind.Kind.{Kind}
use Rattle.graphql_grammar.specs.declared.kind.Kind.TheVariants as k
use Rattle.graphql_grammar.specs.Kinds.{Kinds, kind, only}
use Rattle.graphql_grammar.specs.Input.{Located, Input, Fault, Parser, Outcome, and_then, peek, peek_kind, first, left, next, refusal}
use Rattle.graphql_grammar.specs.Steps.{sees, until, until_from, all, all_from}
use Rattle.graphql_grammar.specs.Cursor.{after}
use Rattle.graphql_grammar.proofs.Cursors.{after_yes, after_no}

turn_left : {X : Type 0} {x : X} (f : ℕ → X) (n at : ℕ) → at < n → x ≡ f (n - at) → x ≡ f (suc (n - (at + 1)))
turn_left f n at below e = let turn : n - at ≡ suc (n - (at + 1)) = omega arith in e ∙ ap f turn

no_turn : {X : Type 0} {x : X} (f : ℕ → X) (n at : ℕ) → n ≤ at → x ≡ f (n - at) → x ≡ f 0
no_turn f n at done e = let none : n - at ≡ 0 = omega arith in e ∙ ap f none

-- a test of the kind that stands next, as the steps say it
pub sees_kind : (kinds : Kinds) (i : Input) (w : Kind) (v : Bool) → w ≡ peek_kind i → kinds w ≡ v → sees kinds i ≡ v
unfolding sees
sees_kind kinds i w v is test = ap kinds (sym is) ∙ test

-- ---- items up to the token that closes them
--     for _turn in 0..parser.left() { if parser.eat(close) { return Ok(found); } keep(&mut found, item(parser)?)?; }
--     Err(parser.refuse(alloc))

module _ {A : Type 0} (close : Kind) (item : Parser A) where
  -- at turn `at` of `n`, with these items found, at this place
  pub record UntilLeft (o : Outcome (List A)) (n at : ℕ) (found : List A) (i : Input) : Type 0 where
    pub reads : o ≡ until_from close item (n - at) found i

  until_turn : (n : ℕ) (found : List A) (i : Input) (v : Bool) → sees (only close) i ≡ v
      → until_from close item (suc n) found i ≡ (if v then Ok (found, next i) else and_then (item i) (λ x. until_from close item n (found ++ x ∷ [])))
  unfolding until_from
  until_turn n found i v e = ap (λ b. if b then Ok (found, next i) else and_then (item i) (λ x. until_from close item n (found ++ x ∷ []))) e

  -- with these items found before, mostly none
  pub until_starts : {o : Outcome (List A)} (n : ℕ) (found : List A) (i : Input) → o ≡ until close item found i → n ≡ left i → UntilLeft o n 0 found i
  until_starts {o} n found i e is = let turns : left i ≡ n - 0 = omega arith in record { reads = e ∙ ap (λ m. until_from close item m found i) turns }

  -- the closing token was eaten
  pub until_closed : {o : Outcome (List A)} {n at : ℕ} {found : List A} {i j : Input} {b : Bool} → UntilLeft o n at found i → at < n
      → b ≡ sees (only close) i → b ≡ true → j ≡ after (only close) i → o ≡ Ok (found, j)
  until_closed {o} {n} {at} {found} {i} {j} {b} l below asked is moved =
      let e = sym asked ∙ is in
      turn_left (λ m. until_from close item m found i) n at below l.reads ∙ until_turn (n - (at + 1)) found i true e
      ∙ ap (λ (z : Input). Ok (found, z)) (sym (moved ∙ after_yes (only close) i e))

  -- no closing token: the item decides
  until_item : {o : Outcome (List A)} {n at : ℕ} {found : List A} {i j : Input} {b : Bool} → UntilLeft o n at found i → at < n
      → b ≡ sees (only close) i → b ≡ false → j ≡ after (only close) i → o ≡ and_then (item j) (λ x. until_from close item (n - (at + 1)) (found ++ x ∷ []))
  until_item {o} {n} {at} {found} {i} {j} {b} l below asked is moved =
      let e = sym asked ∙ is in
      turn_left (λ m. until_from close item m found i) n at below l.reads ∙ until_turn (n - (at + 1)) found i false e
      ∙ ap (λ (z : Input). and_then (item z) (λ x. until_from close item (n - (at + 1)) (found ++ x ∷ []))) (sym (moved ∙ after_no (only close) i e))

  -- one more item was read, and kept
  pub until_more : {o : Outcome (List A)} {n at : ℕ} {found more : List A} {i j m : Input} {x : A} {b : Bool} → UntilLeft o n at found i → at < n
      → b ≡ sees (only close) i → b ≡ false → j ≡ after (only close) i → item j ≡ Ok (x, m) → more ≡ found ++ x ∷ [] → UntilLeft o n (at + 1) more m
  until_more {o} {n} {at} {found} {more} {i} {j} {m} {x} {b} l below asked is moved read kept =
      record {
        reads = until_item l below asked is moved ∙ ap (λ (r : Outcome A). and_then r (λ y. until_from close item (n - (at + 1)) (found ++ y ∷ []))) read
            ∙ ap (λ ys. until_from close item (n - (at + 1)) ys m) (sym kept);
      }

  -- an item was refused
  pub until_refused : {o : Outcome (List A)} {n at : ℕ} {found : List A} {i j : Input} {e : Fault} {b : Bool} → UntilLeft o n at found i → at < n
      → b ≡ sees (only close) i → b ≡ false → j ≡ after (only close) i → item j ≡ Err e → o ≡ Err e
  until_refused {o} {n} {at} {found} {i} {j} {e} {b} l below asked is moved read =
      until_item l below asked is moved ∙ ap (λ (r : Outcome A). and_then r (λ y. until_from close item (n - (at + 1)) (found ++ y ∷ []))) read

  -- nothing is left, so there is no closing token
  pub until_ended : {o : Outcome (List A)} {n at : ℕ} {found : List A} {i : Input} → UntilLeft o n at found i → n ≤ at → o ≡ Err (refusal i)
  unfolding until_from
  until_ended {o} {n} {at} {found} {i} l done = no_turn (λ m. until_from close item m found i) n at done l.reads

-- ---- all that begin with one of these kinds, which the end of the text is not; each takes a token
--     while kinds(parser.kind()) { keep(&mut found, item(parser)?)?; }
--     Ok(found)
-- or the same with `for _turn in 0..parser.left() { if !kinds(parser.kind()) { return Ok(found); } keep(&mut found, item(parser)?)?; }`

module _ {A : Type 0} (kinds : Kinds) (item : Parser A) where
  -- with these items found, at this place: as many turns as tokens are left are enough
  pub record AllLeft (o : Outcome (List A)) (found : List A) (i : Input) : Type 0 where
    pub turns : ℕ
    pub enough : left i ≤ turns
    pub reads : o ≡ all_from kinds item turns found i

  all_turn : (n : ℕ) (found : List A) (i : Input) (v : Bool) → sees kinds i ≡ v
      → all_from kinds item (suc n) found i ≡ (if v then and_then (item i) (λ x. all_from kinds item n (found ++ x ∷ [])) else Ok (found, i))
  unfolding all_from
  all_turn n found i v e = ap (λ b. if b then and_then (item i) (λ x. all_from kinds item n (found ++ x ∷ [])) else Ok (found, i)) e

  all_stays : (n : ℕ) (found : List A) (i : Input) → sees kinds i ≡ false → all_from kinds item n found i ≡ Ok (found, i)
  unfolding all_from
  all_stays zero found i e = refl
  all_stays (suc n) found i e = all_turn n found i false e

  -- with these items found before, mostly none
  pub all_starts : {o : Outcome (List A)} (found : List A) (i : Input) → o ≡ all kinds item found i → AllLeft o found i
  all_starts {o} found i e = record { turns = left i; enough = omega arith; reads = e }

  -- another kind stands next
  pub all_stopped : {o : Outcome (List A)} {found : List A} {i : Input} → AllLeft o found i → sees kinds i ≡ false → o ≡ Ok (found, i)
  all_stopped {o} {found} {i} l e = l.reads ∙ all_stays l.turns found i e

  some_left : (f : Span) (xs : List Located) → kinds k.EndOfFile ≡ false → kinds (kind (first f xs).item) ≡ true → 0 < length xs
  some_left f [] not_end e = absurd (cc)
  some_left f (x ∷ xs) not_end e = omega arith

  some_turn : (i : Input) (turns : ℕ) → kinds k.EndOfFile ≡ false → sees kinds i ≡ true → left i ≤ turns → turns ≡ suc (turns - 1)
  unfolding sees peek_kind peek
  some_turn i turns not_end e enough = let some = some_left i.finish i.ahead not_end e in omega arith

  all_item : {o : Outcome (List A)} {found : List A} {i : Input} → kinds k.EndOfFile ≡ false → (l : AllLeft o found i) → sees kinds i ≡ true
      → o ≡ and_then (item i) (λ x. all_from kinds item (l.turns - 1) (found ++ x ∷ []))
  all_item {o} {found} {i} not_end l e =
      l.reads ∙ ap (λ n. all_from kinds item n found i) (some_turn i l.turns not_end e l.enough) ∙ all_turn (l.turns - 1) found i true e

  -- one more item was read, which took a token, and kept
  pub all_more : {o : Outcome (List A)} {found more : List A} {i m : Input} {x : A} → kinds k.EndOfFile ≡ false → AllLeft o found i → sees kinds i ≡ true
      → item i ≡ Ok (x, m) → left m < left i → more ≡ found ++ x ∷ [] → AllLeft o more m
  all_more {o} {found} {more} {i} {m} {x} not_end l e read fewer kept =
      let turn = some_turn i l.turns not_end e l.enough in
      let enough = l.enough in
      record {
        turns = l.turns - 1;
        enough = omega arith;
        reads = all_item not_end l e ∙ ap (λ (r : Outcome A). and_then r (λ y. all_from kinds item (l.turns - 1) (found ++ y ∷ []))) read
            ∙ ap (λ ys. all_from kinds item (l.turns - 1) ys m) (sym kept);
      }

  -- an item was refused
  pub all_refused : {o : Outcome (List A)} {found : List A} {i : Input} {e : Fault} → kinds k.EndOfFile ≡ false → AllLeft o found i → sees kinds i ≡ true → item i ≡ Err e → o ≡ Err e
  all_refused {o} {found} {i} {e} not_end l is read =
      all_item not_end l is ∙ ap (λ (r : Outcome A). and_then r (λ y. all_from kinds item (l.turns - 1) (found ++ y ∷ []))) read

  -- no token is left, as at the end of that `for`
  pub all_ended : {o : Outcome (List A)} {found : List A} {i : Input} → kinds k.EndOfFile ≡ false → AllLeft o found i → left i ≡ 0 → o ≡ Ok (found, i)
  unfolding sees peek_kind peek
  all_ended {o} {found} {i} not_end l none = all_stopped l (at_end i.finish i.ahead not_end none)
    where
      at_end : (f : Span) (xs : List Located) → kinds k.EndOfFile ≡ false → length xs ≡ 0 → kinds (kind (first f xs).item) ≡ false
      at_end f [] not_end none = not_end
      at_end f (x ∷ xs) not_end none = absurd (omega arith)
