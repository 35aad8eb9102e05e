-- Lists and input objects inside one another: those that are open, and what is left to read of them.
use Rattle.std.proofs.Common.{◌≡◌, ◌≢◌, ◌<◌, ℕ, Bool, true, false, if◌then◌else◌, List, [], ◌∷◌, ◌++◌, Result, Ok, Err, refl, sym, ap, ◌∙◌, arith}
use Rattle.graphql_text.specs.declared.position.SourcePosition.{SourcePosition}
use Rattle.graphql_text.specs.declared.token.ScalarToken.{ScalarToken}
use Rattle.graphql_text.specs.declared.parse_error.ParseError.{ParseError}
use Rattle.graphql_values.specs.declared.input_value.InputValue.{InputValue}
use Rattle.graphql_values.specs.declared.input_value.InputValue.TheVariants as v
use Rattle.graphql_grammar.specs.declared.kind.Kind.{Kind}
use Rattle.graphql_grammar.specs.declared.kind.Kind.TheVariants as k
use Rattle.graphql_grammar.specs.Kinds.{only}
use Rattle.graphql_grammar.specs.Input.{At, Input, Fault, Outcome, Parser, and_then, ◌>>=◌, pure, left, next, peek, peek_kind}
use Rattle.graphql_grammar.specs.Steps.{sees, when, token, expect, until, with_place}
use Rattle.graphql_grammar.specs.Cursor.{after}
use Rattle.graphql_grammar.proofs.Cursors.{token_yes, after_yes, after_no, fewer_kind}
use Rattle.graphql_grammar.proofs.Loops.{until_unfolds}
use Rattle.graphql_grammar.proofs.Parts.{when_yes, when_no}
use Rattle.graphql_value_syntax.specs.declared.nested.Open.{Open}
use Rattle.graphql_value_syntax.specs.declared.nested.Open.TheVariants as o
use Rattle.graphql_value_syntax.specs.declared.nested.Place.{Place}
use Rattle.graphql_value_syntax.specs.declared.nested.Place.TheVariants as p
use Rattle.graphql_value_syntax.specs.declared.nested.Begun.{Begun}
use Rattle.graphql_value_syntax.specs.declared.nested.Begun.TheVariants as how
use Rattle.graphql_value_syntax.specs.ReadParts.{key}
use Rattle.graphql_value_syntax.specs.ReadValues.{ValueAt, name_and, variable_or, list_literal, object_literal, value_level, value}
use Rattle.graphql_value_syntax.specs.ReadNested.{between_places, closing, closed_value, place, held, ending, opening, whole_value, begun_at, value_start, rest, rest_read}
use Rattle.graphql_value_syntax.proofs.ValueDepth.{value_unfolds}
use Rattle.graphql_value_syntax.proofs.ValueLaws.{takes_value, value_at_end, takes_named, named_at_end}
use Rattle.graphql_value_syntax.proofs.ValueSteps.{sees_only, sees_other, pair_with, named_is}

-- one part behind another, in either grouping
regroup : {A B C : Type 0} (r : Outcome A) (f : A → Parser B) (g : B → Parser C) → and_then (and_then r f) g ≡ and_then r (λ a. f a >>= g)
regroup (Ok q) f g = refl
regroup (Err e) f g = refl

module _ {S : Type 0} (reads : ScalarToken → Result S ParseError) (of_bool : Bool → S) (is_const : Bool) where
  abbrev Item : Parser (ValueAt reads of_bool)
  Item = value reads of_bool is_const

  abbrev Named : Parser (At (List ℕ) × ValueAt reads of_bool)
  Named = name_and Item

  abbrev Rest : Open S → Parser (ValueAt reads of_bool)
  Rest = rest reads of_bool is_const

  -- what stands behind a value at this place
  abbrev pub rest_behind : Place S → ValueAt reads of_bool → Parser (ValueAt reads of_bool)
  rest_behind q x = Rest (held q x)

  -- what the outermost gives, of what the innermost gives; the outermost of those that are open is the first
  abbrev pub finishes : List (Place S) → Outcome (ValueAt reads of_bool) → Outcome (ValueAt reads of_bool)
  finishes [] r = r
  finishes (q ∷ qs) r = and_then (finishes qs r) (rest_behind q)

  finishes_refused : (qs : List (Place S)) (e : Fault) → finishes qs (Err e) ≡ Err e
  finishes_refused [] e = refl
  finishes_refused (q ∷ qs) e = ap (λ (r : Outcome (ValueAt reads of_bool)). and_then r (rest_behind q)) (finishes_refused qs e)

  -- one more is open
  finishes_more : (qs : List (Place S)) (q : Place S) (r : Outcome (ValueAt reads of_bool)) → finishes (qs ++ q ∷ []) r ≡ finishes qs (and_then r (rest_behind q))
  finishes_more [] q r = refl
  finishes_more (y ∷ qs) q r = ap (λ (s : Outcome (ValueAt reads of_bool)). and_then s (rest_behind y)) (finishes_more qs q r)

  -- ---- a value is its beginning and the rest of it

  list_of : (i : Input) (r : Outcome (Unit {0})) → and_then (and_then (and_then r (λ u. until k.BracketClose Item [])) (λ xs. pure (v.List xs))) (with_place i)
      ≡ and_then (and_then r (λ u. pure (how.Opens (o.List (peek i).span.start [])))) (rest_read reads of_bool is_const)
  list_of i (Err e) = refl
  list_of i (Ok q) = list_from (until k.BracketClose Item [] q.1)
    where
      list_from : (r : Outcome (List (ValueAt reads of_bool))) → and_then (and_then r (λ xs. pure (v.List xs))) (with_place i) ≡ and_then r (λ xs. ending (closed_value (o.List (peek i).span.start xs)))
      list_from (Ok m) = refl
      list_from (Err e) = refl

  object_of : (i : Input) (r : Outcome (Unit {0})) → and_then (and_then (and_then r (λ u. until k.CurlyClose Named [])) (λ ps. pure (v.Object ps))) (with_place i)
      ≡ and_then (and_then r (λ u. pure (how.Opens (o.Object (peek i).span.start [])))) (rest_read reads of_bool is_const)
  object_of i (Err e) = refl
  object_of i (Ok q) = object_from (until k.CurlyClose Named [] q.1)
    where
      object_from : (r : Outcome (List (At (List ℕ) × ValueAt reads of_bool))) → and_then (and_then r (λ ps. pure (v.Object ps))) (with_place i) ≡ and_then r (λ ps. ending (closed_value (o.Object (peek i).span.start ps)))
      object_from (Ok m) = refl
      object_from (Err e) = refl

  single_of : (i : Input) (r : Outcome (InputValue S)) → and_then r (with_place i) ≡ and_then (and_then r (λ x. ending (λ end. how.Whole (between_places (peek i).span.start end x)))) (rest_read reads of_bool is_const)
  single_of i (Ok q) = refl
  single_of i (Err e) = refl

  begins_by : (i : Input) (b c : Bool)
      → and_then (if b then list_literal reads of_bool Item i else if c then object_literal reads of_bool Item i else variable_or reads of_bool is_const i) (with_place i)
      ≡ and_then (if b then and_then (expect k.BracketOpen i) (λ u. pure (how.Opens (o.List (peek i).span.start []))) else if c then and_then (expect k.CurlyOpen i) (λ u. pure (how.Opens (o.Object (peek i).span.start [])))
      else and_then (variable_or reads of_bool is_const i) (λ x. ending (λ end. how.Whole (between_places (peek i).span.start end x)))) (rest_read reads of_bool is_const)
  begins_by i true c = list_of i (expect k.BracketOpen i)
  begins_by i false true = object_of i (expect k.CurlyOpen i)
  begins_by i false false = single_of i (variable_or reads of_bool is_const i)

  pub value_begins : (i : Input) → Item i ≡ and_then (value_start reads of_bool is_const i) (rest_read reads of_bool is_const)
  unfolding value_level value_start begun_at
  value_begins i = value_unfolds reads of_bool is_const i ∙ begins_by i (sees (only k.BracketOpen) i) (sees (only k.CurlyOpen) i)

  value_by : (i : Input) {s : Outcome (Begun S)} → value_start reads of_bool is_const i ≡ s → Item i ≡ and_then s (rest_read reads of_bool is_const)
  value_by i read = value_begins i ∙ ap (λ (s : Outcome (Begun S)). and_then s (rest_read reads of_bool is_const)) read

  pub value_refused : (i : Input) {e : Fault} → value_start reads of_bool is_const i ≡ Err e → Item i ≡ Err e
  value_refused i read = value_by i read

  pub value_whole : (i : Input) {j : Input} {x : ValueAt reads of_bool} → value_start reads of_bool is_const i ≡ Ok (how.Whole x, j) → Item i ≡ Ok (x, j)
  value_whole i read = value_by i read

  pub value_opens : (i : Input) {j : Input} {x : Open S} → value_start reads of_bool is_const i ≡ Ok (how.Opens x, j) → Item i ≡ Rest x j
  value_opens i read = value_by i read

  -- ---- how a value begins

  abbrev behind_list : SourcePosition → Parser (Begun S)
  behind_list start = when (only k.CurlyOpen) (opening reads of_bool is_const k.CurlyOpen (o.Object start [])) (whole_value reads of_bool is_const start)

  pub begins_list : (i : Input) {j : Input} {start : SourcePosition} {xs : List (ValueAt reads of_bool)} → peek_kind i ≡ k.BracketOpen → start ≡ (peek i).span.start → xs ≡ [] → j ≡ next i
      → value_start reads of_bool is_const i ≡ Ok (how.Opens (o.List start xs), j)
  unfolding value_start begun_at
  begins_list i {j} {start} {xs} kind_is begins none moved =
      let seen = sees_only k.BracketOpen i kind_is refl in
      when_yes (only k.BracketOpen) (opening reads of_bool is_const k.BracketOpen (o.List (peek i).span.start [])) (behind_list (peek i).span.start) i seen
      ∙ ap (λ (r : Outcome (Unit {0})). and_then r (λ u. pure (how.Opens (o.List (peek i).span.start [])))) (token_yes (only k.BracketOpen) (λ u. tt {0}) i seen)
      ∙ ap (λ (m : Input). Ok (how.Opens (o.List (peek i).span.start []), m)) (sym moved) ∙ ap (λ (s : SourcePosition). Ok (how.Opens (o.List s []), j)) (sym begins)
      ∙ ap (λ (ys : List (ValueAt reads of_bool)). Ok (how.Opens (o.List start ys), j)) (sym none)

  pub begins_object : (i : Input) {j : Input} {start : SourcePosition} {ps : List (At (List ℕ) × ValueAt reads of_bool)} → peek_kind i ≡ k.CurlyOpen → start ≡ (peek i).span.start → ps ≡ [] → j ≡ next i
      → value_start reads of_bool is_const i ≡ Ok (how.Opens (o.Object start ps), j)
  unfolding value_start begun_at
  begins_object i {j} {start} {ps} kind_is begins none moved =
      let seen = sees_only k.CurlyOpen i kind_is refl in
      when_no (only k.BracketOpen) (opening reads of_bool is_const k.BracketOpen (o.List (peek i).span.start [])) (behind_list (peek i).span.start) i (sees_other k.BracketOpen i (λ e. let q : k.CurlyOpen ≡ k.BracketOpen = sym kind_is ∙ e in cc))
      ∙ when_yes (only k.CurlyOpen) (opening reads of_bool is_const k.CurlyOpen (o.Object (peek i).span.start [])) (whole_value reads of_bool is_const (peek i).span.start) i seen
      ∙ ap (λ (r : Outcome (Unit {0})). and_then r (λ u. pure (how.Opens (o.Object (peek i).span.start [])))) (token_yes (only k.CurlyOpen) (λ u. tt {0}) i seen)
      ∙ ap (λ (m : Input). Ok (how.Opens (o.Object (peek i).span.start []), m)) (sym moved) ∙ ap (λ (s : SourcePosition). Ok (how.Opens (o.Object s []), j)) (sym begins)
      ∙ ap (λ (qs : List (At (List ℕ) × ValueAt reads of_bool)). Ok (how.Opens (o.Object start qs), j)) (sym none)

  module _ (i : Input) (no_list : peek_kind i ≢ k.BracketOpen) (no_object : peek_kind i ≢ k.CurlyOpen) where
    begins_single : value_start reads of_bool is_const i ≡ whole_value reads of_bool is_const (peek i).span.start i
    unfolding value_start begun_at
    begins_single =
        when_no (only k.BracketOpen) (opening reads of_bool is_const k.BracketOpen (o.List (peek i).span.start [])) (behind_list (peek i).span.start) i (sees_other k.BracketOpen i no_list)
        ∙ when_no (only k.CurlyOpen) (opening reads of_bool is_const k.CurlyOpen (o.Object (peek i).span.start [])) (whole_value reads of_bool is_const (peek i).span.start) i (sees_other k.CurlyOpen i no_object)

    pub begins_refused : {e : Fault} → variable_or reads of_bool is_const i ≡ Err e → value_start reads of_bool is_const i ≡ Err e
    begins_refused refused = begins_single ∙ ap (λ (r : Outcome (InputValue S)). and_then r (λ x. ending (λ end. how.Whole (between_places (peek i).span.start end x)))) refused

    pub begins_whole : {j : Input} {x : InputValue S} {y : ValueAt reads of_bool} {start : SourcePosition} → variable_or reads of_bool is_const i ≡ Ok (x, j) → start ≡ (peek i).span.start → y ≡ between_places start j.end x
        → value_start reads of_bool is_const i ≡ Ok (how.Whole y, j)
    begins_whole {j} {x} {y} {start} read begins made =
        begins_single ∙ ap (λ (r : Outcome (InputValue S)). and_then r (λ x. ending (λ end. how.Whole (between_places (peek i).span.start end x)))) read
        ∙ ap (λ (s : SourcePosition). Ok (how.Whole (between_places s j.end x), j)) (sym begins) ∙ ap (λ (z : ValueAt reads of_bool). Ok (how.Whole z, j)) (sym made)

  -- ---- the turns

  closing_is_token : (x : Open S) → closing x ≢ k.EndOfFile
  closing_is_token (o.List start xs) = λ e. cc
  closing_is_token (o.Object start ps) = λ e. cc

  -- it ends
  closes : (x : Open S) (i : Input) → sees (only (closing x)) i ≡ true → Rest x i ≡ Ok (closed_value x (next i).end, next i)
  closes (o.List start xs) i is =
      ap (λ (r : Outcome (List (ValueAt reads of_bool))). and_then r (λ ys. ending (closed_value (o.List start ys))))
      (until_unfolds k.BracketClose Item refl (takes_value reads of_bool is_const) (value_at_end reads of_bool is_const) xs i
      ∙ when_yes (only k.BracketClose) (token (only k.BracketClose) (λ u. xs)) (Item >>= (λ y. until k.BracketClose Item (xs ++ y ∷ []))) i is
      ∙ token_yes (only k.BracketClose) (λ u. xs) i is)
  closes (o.Object start ps) i is =
      ap (λ (r : Outcome (List (At (List ℕ) × ValueAt reads of_bool))). and_then r (λ qs. ending (closed_value (o.Object start qs))))
      (until_unfolds k.CurlyClose Named refl (takes_named reads of_bool is_const) (named_at_end reads of_bool is_const) ps i
      ∙ when_yes (only k.CurlyClose) (token (only k.CurlyClose) (λ u. ps)) (Named >>= (λ y. until k.CurlyClose Named (ps ++ y ∷ []))) i is
      ∙ token_yes (only k.CurlyClose) (λ u. ps) i is)

  under_name : (start : SourcePosition) (ps : List (At (List ℕ) × ValueAt reads of_bool)) (n : At (List ℕ)) (r : Outcome (ValueAt reads of_bool))
      → and_then (and_then (and_then r (λ x. pure (n, x))) (λ y. until k.CurlyClose Named (ps ++ y ∷ []))) (λ qs. ending (closed_value (o.Object start qs))) ≡ and_then r (rest_behind (p.Object start ps n))
  under_name start ps n (Ok q) = refl
  under_name start ps n (Err e) = refl

  under_key : (start : SourcePosition) (ps : List (At (List ℕ) × ValueAt reads of_bool)) (r : Outcome (At (List ℕ)))
      → and_then (and_then (and_then r (pair_with Item)) (λ y. until k.CurlyClose Named (ps ++ y ∷ []))) (λ qs. ending (closed_value (o.Object start qs)))
      ≡ and_then (and_then r (λ n. pure (p.Object start ps n))) (λ q. Item >>= (rest_behind q))
  under_key start ps (Ok q) = under_name start ps q.0 (Item q.1)
  under_key start ps (Err e) = refl

  -- it does not end
  goes_on : (x : Open S) (i : Input) → sees (only (closing x)) i ≡ false → Rest x i ≡ and_then (place x i) (λ q. Item >>= (rest_behind q))
  goes_on (o.List start xs) i is =
      ap (λ (r : Outcome (List (ValueAt reads of_bool))). and_then r (λ ys. ending (closed_value (o.List start ys))))
      (until_unfolds k.BracketClose Item refl (takes_value reads of_bool is_const) (value_at_end reads of_bool is_const) xs i
      ∙ when_no (only k.BracketClose) (token (only k.BracketClose) (λ u. xs)) (Item >>= (λ y. until k.BracketClose Item (xs ++ y ∷ []))) i is)
      ∙ regroup (Item i) (λ y. until k.BracketClose Item (xs ++ y ∷ [])) (λ ys. ending (closed_value (o.List start ys)))
  goes_on (o.Object start ps) i is =
      ap (λ (r : Outcome (List (At (List ℕ) × ValueAt reads of_bool))). and_then r (λ qs. ending (closed_value (o.Object start qs))))
      (until_unfolds k.CurlyClose Named refl (takes_named reads of_bool is_const) (named_at_end reads of_bool is_const) ps i
      ∙ when_no (only k.CurlyClose) (token (only k.CurlyClose) (λ u. ps)) (Named >>= (λ y. until k.CurlyClose Named (ps ++ y ∷ []))) i is)
      ∙ ap (λ (r : Outcome (At (List ℕ) × ValueAt reads of_bool)). and_then (and_then r (λ y. until k.CurlyClose Named (ps ++ y ∷ []))) (λ qs. ending (closed_value (o.Object start qs)))) (named_is Item i)
      ∙ under_key start ps (key i)

  -- with these open around it, the innermost last, and this one open, at this place
  pub record PartsLeft (r : Outcome (ValueAt reads of_bool)) (outer : List (Place S)) (x : Open S) (i : Input) : Type 0 where
    pub gives : r ≡ finishes outer (Rest x i)

  pub parts_start : (x : Open S) (i : Input) {outer : List (Place S)} → outer ≡ [] → PartsLeft (Rest x i) outer x i
  parts_start x i none = record { gives = ap (λ (qs : List (Place S)). finishes qs (Rest x i)) (sym none) }

  module _ {r : Outcome (ValueAt reads of_bool)} {outer : List (Place S)} {x : Open S} {i j : Input} {w : Kind} {b : Bool} (l : PartsLeft r outer x i) (bracket : w ≡ closing x) (asked : b ≡ sees (only w) i) (moved : j ≡ after (only w) i) where
    sees_closing : sees (only (closing x)) i ≡ b
    sees_closing = ap (λ (u : Kind). sees (only u) i) (sym bracket) ∙ sym asked

    module _ (is : b ≡ true) where
      behind : j ≡ next i
      behind = moved ∙ after_yes (only w) i (sym asked ∙ is)

      -- the bracket was read
      pub parts_fewer : left j < left i
      parts_fewer = let less = fewer_kind i (closing x) (sees_closing ∙ is) (closing_is_token x) in omega (arith, less, ap left behind)

      -- the value that was read
      ended : {y : ValueAt reads of_bool} {e : SourcePosition} → e ≡ j.end → y ≡ closed_value x e → Rest x i ≡ Ok (y, j)
      ended ends made = closes x i (sees_closing ∙ is) ∙ ap (λ (z : Input). Ok (closed_value x z.end, z)) (sym behind) ∙ ap (λ (f : SourcePosition). Ok (closed_value x f, j)) (sym ends) ∙ ap (λ (z : ValueAt reads of_bool). Ok (z, j)) (sym made)

      -- the innermost ends, and it is the outermost too
      pub parts_end : {y : ValueAt reads of_bool} {e : SourcePosition} → e ≡ j.end → y ≡ closed_value x e → outer ≡ [] → r ≡ Ok (y, j)
      parts_end ends made none = l.gives ∙ ap (λ (qs : List (Place S)). finishes qs (Rest x i)) none ∙ ended ends made

      -- the innermost ends, and stands in the one around it
      pub part_ends : {y : ValueAt reads of_bool} {e : SourcePosition} {left : List (Place S)} (q : Place S) {z : Open S} → e ≡ j.end → y ≡ closed_value x e → outer ≡ left ++ q ∷ [] → z ≡ held q y → PartsLeft r left z j
      part_ends {y} {e} {left} q {z} ends made last kept =
          record {
            gives = l.gives ∙ ap (λ (qs : List (Place S)). finishes qs (Rest x i)) last ∙ finishes_more left q (Rest x i)
                ∙ ap (λ (s : Outcome (ValueAt reads of_bool)). finishes left (and_then s (rest_behind q))) (ended ends made) ∙ ap (λ (u : Open S). finishes left (Rest u j)) (sym kept);
          }

    module _ (is : b ≡ false) where
      stays : i ≡ j
      stays = sym (moved ∙ after_no (only w) i (sym asked ∙ is))

      value_next : r ≡ finishes outer (and_then (place x j) (λ q. Item >>= (rest_behind q)))
      value_next = l.gives ∙ ap (finishes outer) (goes_on x i (sees_closing ∙ is)) ∙ ap (λ (z : Input). finishes outer (and_then (place x z) (λ q. Item >>= (rest_behind q)))) stays

      -- no name stands there
      pub parts_unnamed : {e : Fault} → place x j ≡ Err e → r ≡ Err e
      parts_unnamed {e} refused = value_next ∙ ap (λ (s : Outcome (Place S)). finishes outer (and_then s (λ q. Item >>= (rest_behind q)))) refused ∙ finishes_refused outer e

      module _ {q : Place S} {m : Input} (named_there : place x j ≡ Ok (q, m)) where
        value_there : r ≡ finishes outer (and_then (and_then (value_start reads of_bool is_const m) (rest_read reads of_bool is_const)) (rest_behind q))
        value_there = value_next ∙ ap (λ (s : Outcome (Place S)). finishes outer (and_then s (λ q. Item >>= (rest_behind q)))) named_there
            ∙ ap (λ (s : Outcome (ValueAt reads of_bool)). finishes outer (and_then s (rest_behind q))) (value_begins m)

        begins_so : {s : Outcome (Begun S)} → value_start reads of_bool is_const m ≡ s → r ≡ finishes outer (and_then (and_then s (rest_read reads of_bool is_const)) (rest_behind q))
        begins_so read = value_there ∙ ap (λ (t : Outcome (Begun S)). finishes outer (and_then (and_then t (rest_read reads of_bool is_const)) (rest_behind q))) read

        -- no value begins there
        pub parts_refused : {e : Fault} → value_start reads of_bool is_const m ≡ Err e → r ≡ Err e
        parts_refused {e} refused = begins_so refused ∙ finishes_refused outer e

        -- a value that holds no other was read
        pub parts_more : {y : ValueAt reads of_bool} {n : Input} {z : Open S} → value_start reads of_bool is_const m ≡ Ok (how.Whole y, n) → z ≡ held q y → PartsLeft r outer z n
        parts_more {n = n} read kept = record { gives = begins_so read ∙ ap (λ (u : Open S). finishes outer (Rest u n)) (sym kept) }

        -- one more is open
        pub parts_open : {z : Open S} {n : Input} {more : List (Place S)} → value_start reads of_bool is_const m ≡ Ok (how.Opens z, n) → more ≡ outer ++ q ∷ [] → PartsLeft r more z n
        parts_open {z} {n} {more} read kept = record { gives = begins_so read ∙ sym (finishes_more outer q (Rest z n)) ∙ ap (λ (qs : List (Place S)). finishes qs (Rest z n)) (sym kept) }
