-- Whole sets are full once they are written out to a depth, where what is spread means something and ends.
use Rattle.std.proofs.Common.{◌≡◌, refl, sym, ap, subst, ℕ, zero, suc, not, List, [], map, Option, Some, None}
use Rattle.std.specs.List.{All}
use Rattle.std.specs.Option.{is_some, IsSome}
use Rattle.std.proofs.lemmas.Bool.{false≢true}
use Rattle.graphql_names.specs.Names.{Bytes}
use Rattle.graphql_tree.specs.declared.document.Fragment.{Fragment}
use Rattle.graphql_tree.specs.declared.selection.FragmentSpread.{FragmentSpread}
use Rattle.graphql_tree.specs.declared.selection.Selection.{Selection}
use Rattle.graphql_written_out.specs.Trees.{Directives, Tree, none, is_empty, IsFilled}
use Rattle.graphql_written_out.specs.Written.{listed, fragment_meant, Before, chain, spread_as, write_with, write}
use Rattle.graphql_written_out.proofs.WrittenEquations.{write_field, write_spread, write_inline}
use Rattle.graphql_rules_document.specs.SpreadNames.{spread_names, names_in, WrittenWithin}
use Rattle.graphql_rules_document.proofs.ListItems.{all-left, all-right, all-first}
use Rattle.graphql_rules_document.proofs.WrittenLevels.{names-field, names-spread, names-inline, spread_at, write-is}
use Rattle.graphql_plain_validity.specs.WholeSets.{IsWhole, whole_field, whole_spread, whole_inline, IsWholeIfThere, no_set, whole_set, IsWholeSet, one_selection, more_selections}
use Rattle.graphql_plain_validity.specs.Laws.{IsFull}

module _ {S : Type 0} where
  -- ---- for a way to write spreads that fills where P holds of the name

  module _ (P : Bytes → Type 0) (r : FragmentSpread S → Before S)
      (spread-full : (y : FragmentSpread S) → P y.name.item → (rest : Tree S) → IsFilled rest → IsFull (r y rest)) where
    abbrev w : Selection S → Before S
    w = write_with r

    abbrev all : List (Selection S) → Tree S → Tree S
    all xs = chain (map w xs)

    mutual
      selection-full : {x : Selection S} → IsWhole x → All P (spread_names x) → (rest : Tree S) → IsFilled rest → IsFull (w x rest)
      selection-full (whole_field x h) names rest good =
          let below = maybe-full h (subst (All P) (names-field x) names) in
          subst IsFull (sym (write_field r x rest)) (refl, (below.0, below.1, good))
      selection-full (whole_spread x) names rest good =
          subst IsFull (sym (write_spread r x rest)) (spread-full x.item (all-first P _ [] (subst (All P) (names-spread x) names)) rest good)
      selection-full (whole_inline x h) names rest good =
          let below = set-full h (subst (All P) (names-inline x) names) none tt in
          subst IsFull (sym (write_inline r x rest)) (refl, (below.0, below.1, good))

      maybe-full : {o : Option (List (Selection S))} → IsWholeIfThere o → All P (names_in (listed o))
          → (is_some o ≡ not (is_empty (all (listed o) none))) × IsFilled (all (listed o) none)
      maybe-full no_set names = (refl, tt)
      maybe-full (whole_set xs h) names = let full = set-full h names none tt in (ap not (sym full.0), full.1)

      set-full : {xs : List (Selection S)} → IsWholeSet xs → All P (names_in xs) → (rest : Tree S) → IsFilled rest → IsFull (all xs rest)
      set-full (one_selection x h) names rest good = selection-full h (all-left P (spread_names x) [] names) rest good
      set-full (more_selections x xs h k) names rest good =
          selection-full h (all-left P (spread_names x) (names_in xs) names) (all xs rest)
          (set-full k (all-right P (spread_names x) (names_in xs) names) rest good).1

  -- ---- to a depth

  module _ (fragments : List (Fragment S)) where
    abbrev pub IsMeant : Bytes → Type 0
    IsMeant name = IsSome (fragment_meant fragments name)

    -- each fragment that is meant is whole, and spreads such
    abbrev pub Sound : Type 0
    Sound = (f : Fragment S) (name : Bytes) → fragment_meant fragments name ≡ Some f → IsWholeSet f.selection_set × All IsMeant (names_in f.selection_set)

    both-of : (n : ℕ) (ns : List Bytes) → All (WrittenWithin fragments n) ns → All IsMeant ns → All (λ name. WrittenWithin fragments n name × IsMeant name) ns
    both-of n ns a b = λ k d h. (a k d h, b k d h)

    no-one : (o : Option (Fragment S)) → o ≡ None → IsSome o → ⊥
    no-one None e h = false≢true h
    no-one (Some f) e h = cc

    as-full : (n : ℕ) (ds : Directives S) (rest : Tree S) (o : Option (Fragment S)) → IsSome o → ((f : Fragment S) → o ≡ Some f → IsFull (write n fragments f.selection_set)) → IsFilled rest
        → IsFull (spread_as (write n fragments) ds rest o)
    as-full n ds rest None h full good = absurd (false≢true h)
    as-full n ds rest (Some f) h full good = let one = full f refl in (refl, (one.0, one.1, good))

    pub write-full : Sound → (n : ℕ) (xs : List (Selection S)) → IsWholeSet xs → All (WrittenWithin fragments n) (names_in xs) → All IsMeant (names_in xs) → IsFull (write n fragments xs)
    write-full sound zero xs whole ends meant =
        subst IsFull (sym (write-is fragments zero xs))
        (set-full (λ name. WrittenWithin fragments zero name × IsMeant name) (spread_at fragments zero) (λ y h rest good. absurd (no-one (fragment_meant fragments y.name.item) h.0 h.1))
        whole (both-of zero (names_in xs) ends meant) none tt)
    write-full sound (suc n) xs whole ends meant =
        subst IsFull (sym (write-is fragments (suc n) xs))
        (set-full (λ name. WrittenWithin fragments (suc n) name × IsMeant name) (spread_at fragments (suc n))
        (λ y h rest good. as-full n (listed y.directives) rest (fragment_meant fragments y.name.item) h.1
        (λ f e. let one = sound f y.name.item e in write-full sound n f.selection_set one.0 (h.0 f e) one.1) good)
        whole (both-of (suc n) (names_in xs) ends meant) none tt)
