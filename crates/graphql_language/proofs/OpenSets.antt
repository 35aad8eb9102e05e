-- Selection sets inside one another: those that are open, and what is left to read of them.
use Rattle.std.proofs.Common.{◌≡◌, ◌≢◌, ◌⊎◌, inl, inr, Bool, true, false, List, [], ◌∷◌, ◌++◌, Result, Ok, Err, refl, sym, ap, ◌∙◌}
use Rattle.graphql_text.specs.declared.position.SourcePosition.{SourcePosition}
use Rattle.graphql_text.specs.declared.token.ScalarToken.{ScalarToken}
use Rattle.graphql_text.specs.declared.parse_error.ParseError.{ParseError}
use Rattle.graphql_tree.specs.declared.selection.Selection.{Selection}
use Rattle.graphql_language.specs.declared.parse.selection.Head.{Head}
use Rattle.graphql_language.specs.declared.parse.selection.Open.{Open}
use Rattle.graphql_grammar.specs.declared.kind.Kind.TheVariants as k
use Rattle.graphql_grammar.specs.Kinds.{only}
use Rattle.graphql_grammar.specs.Input.{Input, Fault, Outcome, Parser, and_then, ◌>>=◌, next}
use Rattle.graphql_grammar.specs.Steps.{sees, when, token, expect, until}
use Rattle.graphql_grammar.proofs.Cursors.{token_yes}
use Rattle.graphql_grammar.proofs.Loops.{until_unfolds}
use Rattle.graphql_grammar.proofs.Parts.{then_read, then_refused, when_yes, when_no}
use Rattle.graphql_language.specs.ReadSelections.{selection_set, selection}
use Rattle.graphql_language.specs.declared.parse.selection.Begun.TheVariants as how
use Rattle.graphql_language.specs.ReadHeads.{selection_with, ending, selection_start}
use Rattle.graphql_language.proofs.SelectionDepth.{takes_selection, selection_at_end}
use Rattle.graphql_language.proofs.SelectionLevels.{selection_refused, selection_whole, selection_inside_refused, selection_opens}
use Rattle.graphql_value_syntax.proofs.ValueDepth.{value_uses}

module _ {S : Type 0} (reads : ScalarToken → Result S ParseError) (of_bool : Bool → S) where
  abbrev Item : Parser (Selection S)
  Item = selection reads of_bool

  abbrev Set : Parser (List (Selection S))
  Set = selection_set reads of_bool (selection reads of_bool)

  -- the rest of a set behind these selections, up to its closing bracket: one selection at least stands in it
  abbrev pub rest_of_set : List (Selection S) → Parser (List (Selection S))
  rest_of_set [] = Item >>= (λ x. until k.CurlyClose Item (x ∷ []))
  rest_of_set (x ∷ xs) = until k.CurlyClose Item (x ∷ xs)

  -- the rest of the set around one that was read
  abbrev pub rest_around : Open S → List (Selection S) → Parser (List (Selection S))
  rest_around o ss = λ i. rest_of_set (o.around ++ selection_with o.head ss i.end ∷ []) i

  -- what the outermost set gives, of what the innermost gives; the outermost of those that are open is the first
  abbrev pub finishes : List (Open S) → Outcome (List (Selection S)) → Outcome (List (Selection S))
  finishes [] o = o
  finishes (x ∷ xs) o = and_then (finishes xs o) (rest_around x)

  finishes_refused : (xs : List (Open S)) (e : Fault) → finishes xs (Err e) ≡ Err e
  finishes_refused [] e = refl
  finishes_refused (x ∷ xs) e = ap (λ (o : Outcome (List (Selection S))). and_then o (rest_around x)) (finishes_refused xs e)

  -- one more is open
  finishes_more : (xs : List (Open S)) (x : Open S) (o : Outcome (List (Selection S))) → finishes (xs ++ x ∷ []) o ≡ finishes xs (and_then o (rest_around x))
  finishes_more [] x o = refl
  finishes_more (y ∷ xs) x o = ap (λ (r : Outcome (List (Selection S))). and_then r (rest_around y)) (finishes_more xs x o)

  unfolds_until : (xs : List (Selection S)) (i : Input) → until k.CurlyClose Item xs i ≡ when (only k.CurlyClose) (token (only k.CurlyClose) (λ u. xs)) (Item >>= (λ x. until k.CurlyClose Item (xs ++ x ∷ []))) i
  unfolds_until = until_unfolds k.CurlyClose Item refl (takes_selection reads of_bool (value_uses reads of_bool)) (selection_at_end reads of_bool (value_uses reads of_bool))

  -- ---- the turns

  -- the set ends
  set_closes : (found : List (Selection S)) (i : Input) → found ≢ [] → sees (only k.CurlyClose) i ≡ true → rest_of_set found i ≡ Ok (found, next i)
  set_closes [] i some is = absurd (some refl)
  set_closes (x ∷ xs) i some is = unfolds_until (x ∷ xs) i
      ∙ when_yes (only k.CurlyClose) (token (only k.CurlyClose) (λ u. x ∷ xs)) (Item >>= (λ y. until k.CurlyClose Item ((x ∷ xs) ++ y ∷ []))) i is
      ∙ token_yes (only k.CurlyClose) (λ u. x ∷ xs) i is

  -- where it does not end
  abbrev pub GoesOn : List (Selection S) → Input → Type 0
  GoesOn found i = (found ≡ []) ⊎ (sees (only k.CurlyClose) i ≡ false)

  set_goes_on : (found : List (Selection S)) (i : Input) → GoesOn found i → rest_of_set found i ≡ and_then (Item i) (λ x. rest_of_set (found ++ x ∷ []))
  set_goes_on [] i more = refl
  set_goes_on (x ∷ xs) i (inl none) = absurd (cc)
  set_goes_on (x ∷ xs) i (inr is) = unfolds_until (x ∷ xs) i
      ∙ when_no (only k.CurlyClose) (token (only k.CurlyClose) (λ u. x ∷ xs)) (Item >>= (λ y. until k.CurlyClose Item ((x ∷ xs) ++ y ∷ []))) i is

  -- a selection's own set is open in it
  inner : (x : Open S) (o : Outcome (List (Selection S))) → and_then (and_then o (λ ss. ending (selection_with x.head ss))) (λ y. rest_of_set (x.around ++ y ∷ [])) ≡ and_then o (rest_around x)
  inner x (Ok p) = refl
  inner x (Err e) = refl

  -- with these sets open, and these selections found in the innermost, at this place
  pub record SetsLeft (o : Outcome (List (Selection S))) (outer : List (Open S)) (found : List (Selection S)) (i : Input) : Type 0 where
    pub gives : o ≡ finishes outer (rest_of_set found i)

  pub sets_start : (i : Input) {j : Input} {u : Unit {0}} {outer : List (Open S)} {found : List (Selection S)} → expect k.CurlyOpen i ≡ Ok (u, j) → outer ≡ [] → found ≡ [] → SetsLeft (Set i) outer found j
  unfolding selection_set
  sets_start i {j} {u} {outer} {found} opening none empty =
      record {
        gives = then_read (expect k.CurlyOpen) (λ u. Item >>= (λ x. until k.CurlyClose Item (x ∷ []))) opening
            ∙ ap (λ (xs : List (Selection S)). rest_of_set xs j) (sym empty) ∙ ap (λ (xs : List (Open S)). finishes xs (rest_of_set found j)) (sym none);
      }

  module _ {o : Outcome (List (Selection S))} {outer : List (Open S)} {found : List (Selection S)} {i : Input} (l : SetsLeft o outer found i) where
    -- the innermost set ends, and it is the outermost too
    pub sets_end : {j : Input} → found ≢ [] → sees (only k.CurlyClose) i ≡ true → j ≡ next i → outer ≡ [] → o ≡ Ok (found, j)
    sets_end {j} some is moved none = l.gives ∙ ap (λ (xs : List (Open S)). finishes xs (rest_of_set found i)) none ∙ set_closes found i some is
        ∙ ap (λ (z : Input). Ok (found, z)) (sym moved)

    -- the innermost set ends, and the selection that it is of
    pub set_ends : {j : Input} (x : Open S) {left : List (Open S)} {more : List (Selection S)} {e : SourcePosition} → found ≢ [] → sees (only k.CurlyClose) i ≡ true → j ≡ next i → outer ≡ left ++ x ∷ [] → e ≡ j.end
        → more ≡ x.around ++ selection_with x.head found e ∷ [] → SetsLeft o left more j
    set_ends {j} x {left} {more} {e} some is moved last ends kept =
        let read = set_closes found i some is ∙ ap (λ (z : Input). Ok (found, z)) (sym moved) in
        let made = kept ∙ ap (λ (p : SourcePosition). x.around ++ selection_with x.head found p ∷ []) ends in
        record {
          gives = l.gives ∙ ap (λ (xs : List (Open S)). finishes xs (rest_of_set found i)) last ∙ finishes_more left x (rest_of_set found i)
              ∙ ap (λ (r : Outcome (List (Selection S))). finishes left (and_then r (rest_around x))) read ∙ ap (λ (xs : List (Selection S)). finishes left (rest_of_set xs j)) (sym made);
        }

    module _ (goes : GoesOn found i) where
      item_next : o ≡ finishes outer (and_then (Item i) (λ x. rest_of_set (found ++ x ∷ [])))
      item_next = l.gives ∙ ap (finishes outer) (set_goes_on found i goes)

      item_refused : {e : Fault} → Item i ≡ Err e → o ≡ Err e
      item_refused {e} refused = item_next ∙ ap (λ (r : Outcome (Selection S)). finishes outer (and_then r (λ x. rest_of_set (found ++ x ∷ [])))) refused ∙ finishes_refused outer e

      -- a selection was refused before its set
      pub sets_refused : {e : Fault} → selection_start reads of_bool i ≡ Err e → o ≡ Err e
      sets_refused refused = item_refused (selection_refused reads of_bool i refused)

      -- a selection without a set was read
      pub sets_more : {j : Input} {x : Selection S} {more : List (Selection S)} → selection_start reads of_bool i ≡ Ok (how.Whole x, j) → more ≡ found ++ x ∷ [] → SetsLeft o outer more j
      sets_more {j} {x} {more} read kept =
          record {
            gives = item_next ∙ ap (λ (r : Outcome (Selection S)). finishes outer (and_then r (λ x. rest_of_set (found ++ x ∷ [])))) (selection_whole reads of_bool i read)
                ∙ ap (λ (xs : List (Selection S)). finishes outer (rest_of_set xs j)) (sym kept);
          }

      module _ {x : Head S} {j : Input} (read : selection_start reads of_bool i ≡ Ok (how.Opens x, j)) where
        -- no set stands behind a selection that must have one
        pub sets_unopened : {e : Fault} → expect k.CurlyOpen j ≡ Err e → o ≡ Err e
        unfolding selection_set
        sets_unopened refused = item_refused (selection_inside_refused reads of_bool i read (then_refused (expect k.CurlyOpen) (λ u. Item >>= (λ x. until k.CurlyClose Item (x ∷ []))) refused))

        -- one more set is open
        pub sets_open : {m : Input} {u : Unit {0}} {more : List (Open S)} {none : List (Selection S)} → expect k.CurlyOpen j ≡ Ok (u, m) → more ≡ outer ++ record { head = x; around = found } ∷ [] → none ≡ [] → SetsLeft o more none m
        unfolding selection_set
        sets_open {m} {u} {more} {none} opening kept empty =
            let open_one : Open S = record { head = x; around = found } in
            let inside : Set j ≡ rest_of_set [] m = then_read (expect k.CurlyOpen) (λ u. Item >>= (λ x. until k.CurlyClose Item (x ∷ []))) opening in
            let item = selection_opens reads of_bool i read ∙ ap (λ (r : Outcome (List (Selection S))). and_then r (λ ss. ending (selection_with x ss))) inside in
            record {
              gives = item_next ∙ ap (λ (r : Outcome (Selection S)). finishes outer (and_then r (λ y. rest_of_set (found ++ y ∷ [])))) item
                  ∙ ap (finishes outer) (inner open_one (rest_of_set [] m)) ∙ sym (finishes_more outer open_one (rest_of_set [] m))
                  ∙ ap (λ (xs : List (Open S)). finishes xs (rest_of_set [] m)) (sym kept) ∙ ap (λ (xs : List (Selection S)). finishes more (rest_of_set xs m)) (sym empty);
            }
