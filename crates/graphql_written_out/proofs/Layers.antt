-- One level of what is written out.
use Rattle.std.proofs.Common.{◌≡◌, refl, sym, ◌∙◌, ap, ℕ, zero, suc, ◌+◌, ◌<◌, ◌≤◌, max, arith, Bool, true, false, not, ◌||◌, List, [], ◌∷◌, ◌++◌, length, append-nil, get_or, Option, Some, None, cond}
use Rattle.std.specs.List.{flat_map}
use Rattle.graphql_values.specs.InputValues.{Placed}
use Rattle.graphql_tree.specs.declared.document.Fragment.{Fragment}
use Rattle.graphql_tree.specs.declared.selection.Field.{Field}
use Rattle.graphql_tree.specs.declared.selection.FragmentSpread.{FragmentSpread}
use Rattle.graphql_tree.specs.declared.selection.InlineFragment.{InlineFragment}
use Rattle.graphql_tree.specs.declared.selection.Selection.{Selection}
use Rattle.graphql_tree.specs.declared.selection.Selection.TheVariants as selection
use Rattle.graphql_tree.proofs.SelectionInduction.{selection_ind}
use Rattle.graphql_names.specs.Names.{Bytes}
use Rattle.graphql_written_out.specs.Trees.{Directives, Tree, none, field, inline, height}
use Rattle.graphql_written_out.specs.Written.{listed, fragment_meant, head_of, condition_of, spread_as, write_one, write, written, written_selection, Settled}
use Rattle.graphql_written_out.specs.Fields.{Found, fields, applies}
use Rattle.graphql_written_out.proofs.WrittenEquations.{write_field, write_spread, write_inline}

module _ {S : Type 0} (fragments : List (Fragment S)) where
  -- a selection before what follows it
  unfoldable pub deep : Selection S → Tree S → Tree S
  deep = write_one (suc (length fragments)) fragments

  abbrev pub spread_in : FragmentSpread S → Tree S → Tree S
  spread_in x rest = spread_as (write (length fragments) fragments) (listed x.directives) rest (fragment_meant fragments x.name.item)

  pub deep-Field : (x : Placed (Field S)) (rest : Tree S) → deep (selection.Field x) rest ≡ field (head_of x) (listed x.item.directives) (written fragments (listed x.item.selection_set)) rest
  unfolding deep written
  deep-Field = write_field spread_in

  pub deep-Spread : (x : Placed (FragmentSpread S)) (rest : Tree S) → deep (selection.FragmentSpread x) rest ≡ spread_in x.item rest
  unfolding deep
  deep-Spread = write_spread spread_in

  pub deep-Inline : (x : Placed (InlineFragment S)) (rest : Tree S) → deep (selection.InlineFragment x) rest ≡ inline (condition_of x.item) (listed x.item.directives) (written fragments x.item.selection_set) rest
  unfolding deep written
  deep-Inline = write_inline spread_in

  pub written-cons : (x : Selection S) (xs : List (Selection S)) → written fragments (x ∷ xs) ≡ deep x (written fragments xs)
  unfolding deep written
  written-cons x xs = refl

  pub written-nil : written fragments [] ≡ none
  unfolding written
  written-nil = refl

  pub one-deep : (x : Selection S) → written_selection fragments x ≡ deep x none
  unfolding deep written_selection
  one-deep x = refl

  module _ (drops : Directives S → Bool) (b : Bytes → Bool) where
    kept_or : (q : Bool) (xs ys : List (Found S)) → (cond q ys (xs ++ ys)) ≡ (cond q [] (xs ++ [])) ++ ys
    kept_or true xs ys = refl
    kept_or false xs ys = rw append-nil refl

    kept_one : (q : Bool) (x : Found S) (ys : List (Found S)) → (cond q ys (x ∷ ys)) ≡ (cond q [] (x ∷ [])) ++ ys
    kept_one true x ys = refl
    kept_one false x ys = refl

    fields-spread : (directives : Directives S) (rest : Tree S) (f : Option (Fragment S))
        → fields drops b (spread_as (write (length fragments) fragments) directives rest f)
        ≡ fields drops b (spread_as (write (length fragments) fragments) directives none f) ++ fields drops b rest
    fields-spread directives rest None = refl
    fields-spread directives rest (Some f) = kept_or (drops directives || not (b f.type_condition.item)) _ _

    abbrev Adds : Selection S → Type 0
    Adds x = (rest : Tree S) → fields drops b (deep x rest) ≡ fields drops b (deep x none) ++ fields drops b rest

    fields-deep : (x : Selection S) → Adds x
    fields-deep = selection_ind Adds
        (λ x h rest. rw (deep-Field x rest, deep-Field x none) (kept_one (drops (listed x.item.directives)) _ _))
        (λ x rest. rw (deep-Spread x rest, deep-Spread x none) (fields-spread (listed x.item.directives) rest (fragment_meant fragments x.item.name.item)))
        (λ x h rest. rw (deep-Inline x rest, deep-Inline x none) (kept_or (drops (listed x.item.directives) || not (applies b (condition_of x.item))) _ _))

    pub fields-written : (xs : List (Selection S)) → fields drops b (written fragments xs) ≡ flat_map (λ x. fields drops b (written_selection fragments x)) xs
    fields-written [] = ap (fields drops b) written-nil
    fields-written (x ∷ xs) =
        ap (fields drops b) (written-cons x xs) ∙ fields-deep x (written fragments xs)
        ∙ (λ i. fields drops b (sym (one-deep x) i) ++ fields-written xs i)

    -- what a walk brings of a selection
    pub out-Field : (x : Placed (Field S)) → drops (listed x.item.directives) ≡ true → [] ≡ fields drops b (written_selection fragments (selection.Field x))
    out-Field x t = rw (one-deep, deep-Field x none, t) refl

    pub in-Field : (x : Placed (Field S)) → drops (listed x.item.directives) ≡ false → record { head = head_of x; below = written fragments (listed x.item.selection_set) } ∷ [] ≡ fields drops b (written_selection fragments (selection.Field x))
    in-Field x t = rw (one-deep, deep-Field x none, t) refl

    pub out-Inline : (x : Placed (InlineFragment S)) → drops (listed x.item.directives) ≡ true → [] ≡ fields drops b (written_selection fragments (selection.InlineFragment x))
    out-Inline x t = rw (one-deep, deep-Inline x none, t) refl

    pub other-Inline : (x : Placed (InlineFragment S)) → drops (listed x.item.directives) ≡ false → applies b (condition_of x.item) ≡ false
        → [] ≡ fields drops b (written_selection fragments (selection.InlineFragment x))
    other-Inline x t n = rw (one-deep, deep-Inline x none, t, n) refl

    pub in-Inline : (x : Placed (InlineFragment S)) → drops (listed x.item.directives) ≡ false → applies b (condition_of x.item) ≡ true
        → fields drops b (written fragments x.item.selection_set) ≡ fields drops b (written_selection fragments (selection.InlineFragment x))
    in-Inline x t n = rw (one-deep, deep-Inline x none, t, n, append-nil) refl

    spread-at : (directives : Directives S) (o : Option (Fragment S)) (f : Fragment S) → o ≡ Some f
        → fields drops b (spread_as (write (length fragments) fragments) directives none o)
        ≡ cond (drops directives || not (b f.type_condition.item)) [] (fields drops b (write (length fragments) fragments f.selection_set))
    spread-at directives o f e = rw (e, append-nil) refl

    pub out-Spread : (x : Placed (FragmentSpread S)) → drops (listed x.item.directives) ≡ true → [] ≡ fields drops b (written_selection fragments (selection.FragmentSpread x))
    out-Spread x t = rw (one-deep, deep-Spread x none) (dropped (fragment_meant fragments x.item.name.item))
      where
        dropped : (o : Option (Fragment S)) → [] ≡ fields drops b (spread_as (write (length fragments) fragments) (listed x.item.directives) none o)
        dropped None = refl
        dropped (Some f) = rw t refl

    pub unknown-Spread : (x : Placed (FragmentSpread S)) → fragment_meant fragments x.item.name.item ≡ None → [] ≡ fields drops b (written_selection fragments (selection.FragmentSpread x))
    unknown-Spread x n = rw (one-deep, deep-Spread x none, n) refl

    pub other-Spread : (x : Placed (FragmentSpread S)) (f : Fragment S) → drops (listed x.item.directives) ≡ false → fragment_meant fragments x.item.name.item ≡ Some f
        → b f.type_condition.item ≡ false → [] ≡ fields drops b (written_selection fragments (selection.FragmentSpread x))
    other-Spread x f t e n = rw (one-deep, deep-Spread x none, spread-at (listed x.item.directives) _ f e, t, n) refl

    pub in-Spread : Settled fragments → (x : Placed (FragmentSpread S)) (f : Fragment S) → drops (listed x.item.directives) ≡ false → fragment_meant fragments x.item.name.item ≡ Some f
        → b f.type_condition.item ≡ true → fields drops b (written fragments f.selection_set) ≡ fields drops b (written_selection fragments (selection.FragmentSpread x))
    in-Spread settled x f t e n = rw (one-deep, deep-Spread x none, spread-at (listed x.item.directives) _ f e, t, n, settled f x.item.name.item e) refl

  height-spread : (directives : Directives S) (rest : Tree S) (f : Option (Fragment S))
      → height (spread_as (write (length fragments) fragments) directives rest f)
      ≡ max (height (spread_as (write (length fragments) fragments) directives none f)) (height rest)
  height-spread directives rest None = omega arith
  height-spread directives rest (Some f) = omega arith

  abbrev Covers : Selection S → Type 0
  Covers x = (rest : Tree S) → height (deep x rest) ≡ max (height (deep x none)) (height rest)

  height-deep : (x : Selection S) → Covers x
  height-deep = selection_ind Covers
      (λ x h rest. rw (deep-Field x rest, deep-Field x none) (omega arith))
      (λ x rest. rw (deep-Spread x rest, deep-Spread x none) (height-spread (listed x.item.directives) rest (fragment_meant fragments x.item.name.item)))
      (λ x h rest. rw (deep-Inline x rest, deep-Inline x none) (omega arith))

  height-cons : (x : Selection S) (xs : List (Selection S)) → height (written fragments (x ∷ xs)) ≡ max (height (written_selection fragments x)) (height (written fragments xs))
  height-cons x xs = rw (written-cons x xs, one-deep x) (height-deep x (written fragments xs))

  -- a selection is no higher than its set
  pub height-one : (xs : List (Selection S)) (i : ℕ) (d : Selection S) → i < length xs → height (written_selection fragments (get_or xs i d)) ≤ height (written fragments xs)
  height-one [] i d h = absurd (omega (arith, h))
  height-one (x ∷ xs) zero d h = omega (arith, height-cons x xs)
  height-one (x ∷ xs) (suc i) d h = let ih : height (written_selection fragments (get_or xs i d)) ≤ height (written fragments xs) = height-one xs i d (omega (arith, h)) in omega (arith, height-cons x xs, ih)

  pub height-of-Inline : (x : Placed (InlineFragment S)) → height (written fragments x.item.selection_set) < height (written_selection fragments (selection.InlineFragment x))
  height-of-Inline x = rw (one-deep, deep-Inline x none) (omega arith)

  pub height-of-Spread : Settled fragments → (x : Placed (FragmentSpread S)) (f : Fragment S) → fragment_meant fragments x.item.name.item ≡ Some f
      → height (written fragments f.selection_set) < height (written_selection fragments (selection.FragmentSpread x))
  height-of-Spread settled x f e = rw (one-deep, deep-Spread x none, e, settled f x.item.name.item e) (omega arith)

pub ruleset opening = (out-Field, in-Field, out-Inline, other-Inline, in-Inline, out-Spread, unknown-Spread, other-Spread, in-Spread)

pub ruleset heights = (height-of-Inline, height-of-Spread)
