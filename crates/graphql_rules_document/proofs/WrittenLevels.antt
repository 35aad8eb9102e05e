-- What ends within some levels is written out by as many.
use Rattle.std.proofs.Common.{◌≡◌, refl, sym, ◌∙◌, ap, subst, ℕ, zero, suc, ◌≤◌, arith, List, [], ◌∷◌, ◌++◌, map, length, get_or, Option, Some, None}
use Rattle.std.specs.Option.{IfSome}
use Rattle.std.specs.List.{All, flat_map}
use Rattle.graphql_names.specs.Names.{Bytes}
use Rattle.graphql_values.specs.InputValues.{Placed}
use Rattle.graphql_tree.specs.declared.document.Fragment.{Fragment}
use Rattle.graphql_tree.specs.declared.selection.Field.{Field}
use Rattle.graphql_tree.specs.declared.selection.FragmentSpread.{FragmentSpread}
use Rattle.graphql_tree.specs.declared.selection.InlineFragment.{InlineFragment}
use Rattle.graphql_tree.specs.declared.selection.Selection.{Selection}
use Rattle.graphql_tree.specs.declared.selection.Selection.TheVariants as selection
use Rattle.graphql_tree.proofs.SelectionEquations.{fold_field, fold_spread, fold_inline, fold_in_field, fold_in_inline}
use Rattle.graphql_tree.proofs.SelectionInduction.{selection_ind}
use Rattle.graphql_written_out.specs.Trees.{Directives, Tree, none, field, inline}
use Rattle.graphql_written_out.specs.Written.{listed, head_of, condition_of, Before, chain, spread_as, fragment_meant, write_with, write, written, Settled}
use Rattle.graphql_written_out.proofs.WrittenEquations.{listed-map, write_field, write_spread, write_inline}
use Rattle.graphql_rules_document.specs.SpreadNames as names
use Rattle.graphql_rules_document.specs.SpreadNames.{spread_names, names_in, WrittenWithin}
use Rattle.graphql_rules_document.proofs.ListItems.{all-left, all-right, all-first, all-after}

-- ---- the names that are spread, form by form

flat-map-map : {A : Type 0} (f : A → List Bytes) (xs : List A) → flat_map (λ ns. ns) (map f xs) ≡ flat_map f xs
flat-map-map f [] = refl
flat-map-map f (x ∷ xs) = ap (λ rest. f x ++ rest) (flat-map-map f xs)

module _ {S : Type 0} where
  pub names-field : (x : Placed (Field S)) → spread_names (selection.Field x) ≡ names_in (listed x.item.selection_set)
  unfolding spread_names
  names-field x =
      fold_field names.selection_layer names.field_layer names.inline_layer x ∙ fold_in_field names.selection_layer names.field_layer names.inline_layer x.item
      ∙ ap (flat_map (λ ns. ns)) (listed-map spread_names x.item.selection_set) ∙ flat-map-map spread_names (listed x.item.selection_set)

  pub names-spread : (x : Placed (FragmentSpread S)) → spread_names (selection.FragmentSpread x) ≡ x.item.name.item ∷ []
  unfolding spread_names
  names-spread x = fold_spread names.selection_layer names.field_layer names.inline_layer x

  pub names-inline : (x : Placed (InlineFragment S)) → spread_names (selection.InlineFragment x) ≡ names_in x.item.selection_set
  unfolding spread_names
  names-inline x =
      fold_inline names.selection_layer names.field_layer names.inline_layer x ∙ fold_in_inline names.selection_layer names.field_layer names.inline_layer x.item
      ∙ flat-map-map spread_names x.item.selection_set

  -- ---- what is written with two ways to write spreads that agree on the names that are spread

  module _ (P : Bytes → Type 0) (s t : FragmentSpread S → Before S) (same : (y : FragmentSpread S) → P y.name.item → (rest : Tree S) → s y rest ≡ t y rest) where
    abbrev Same : Selection S → Type 0
    Same x = All P (spread_names x) → (rest : Tree S) → write_with s x rest ≡ write_with t x rest

    chain-same : (xs : List (Selection S)) → All Same xs → All P (names_in xs) → (rest : Tree S) → chain (map (write_with s) xs) rest ≡ chain (map (write_with t) xs) rest
    chain-same [] each ends rest = refl
    chain-same (x ∷ xs) each ends rest =
        ap (write_with s x) (chain-same xs (all-after Same x xs each) (all-right P (spread_names x) (names_in xs) ends) rest)
        ∙ all-first Same x xs each (all-left P (spread_names x) (names_in xs) ends) (chain (map (write_with t) xs) rest)

    none-all : All Same []
    none-all = λ k d within. absurd (omega (arith, within))

    held : (set : Option (List (Selection S))) → IfSome set (All Same) → All Same (listed set)
    held None h = none-all
    held (Some xs) h = h

    selection-same : (x : Selection S) → Same x
    selection-same = selection_ind Same
        (λ x h ends rest. write_field s x rest
        ∙ ap (λ below. field (head_of x) (listed x.item.directives) below rest)
        (chain-same (listed x.item.selection_set) (held x.item.selection_set h) (subst (All P) (names-field x) ends) none)
        ∙ sym (write_field t x rest))
        (λ x ends rest. write_spread s x rest ∙ same x.item (all-first P _ [] (subst (All P) (names-spread x) ends)) rest ∙ sym (write_spread t x rest))
        (λ x h ends rest. write_inline s x rest
        ∙ ap (λ below. inline (condition_of x.item) (listed x.item.directives) below rest) (chain-same x.item.selection_set h (subst (All P) (names-inline x) ends) none)
        ∙ sym (write_inline t x rest))

    pub set-same : (xs : List (Selection S)) → All P (names_in xs) → chain (map (write_with s) xs) none ≡ chain (map (write_with t) xs) none
    set-same xs ends = chain-same xs (λ k d within. selection-same (get_or xs k d)) ends none

  -- ---- levels

  module _ (fragments : List (Fragment S)) where
    -- what a spread becomes at a depth
    abbrev pub spread_at : ℕ → FragmentSpread S → Before S
    spread_at zero = λ x rest. rest
    spread_at (suc n) = λ x rest. spread_as (write n fragments) (listed x.directives) rest (fragment_meant fragments x.name.item)

    pub write-is : (n : ℕ) (xs : List (Selection S)) → write n fragments xs ≡ chain (map (write_with (spread_at n)) xs) none
    write-is zero xs = refl
    write-is (suc n) xs = refl

    pub write-more : (n m : ℕ) → n ≤ m → (xs : List (Selection S)) → All (WrittenWithin fragments n) (names_in xs) → write n fragments xs ≡ write m fragments xs
    write-more zero zero h xs ends = refl
    write-more zero (suc m) h xs ends =
        set-same (WrittenWithin fragments zero) (spread_at zero) (spread_at (suc m))
        (λ y none_meant rest. ap (spread_as (write m fragments) (listed y.directives) rest) (sym none_meant)) xs ends
    write-more (suc n) zero h xs ends = absurd (omega (arith, h))
    write-more (suc n) (suc m) h xs ends =
        set-same (WrittenWithin fragments (suc n)) (spread_at (suc n)) (spread_at (suc m))
        (λ y within rest. meant n m (listed y.directives) rest (fragment_meant fragments y.name.item) (λ f e. write-more n m (omega (arith, h)) f.selection_set (within f e))) xs ends
      where
        meant : (n m : ℕ) (directives : Directives S) (rest : Tree S) (o : Option (Fragment S)) → ((f : Fragment S) → o ≡ Some f → write n fragments f.selection_set ≡ write m fragments f.selection_set)
            → spread_as (write n fragments) directives rest o ≡ spread_as (write m fragments) directives rest o
        meant n m directives rest None e = refl
        meant n m directives rest (Some f) e = ap (λ below. inline (Some f.type_condition.item) directives below rest) (e f refl)

    -- where each spread of each fragment ends within so many levels, as many write all out
    pub settled-within : ((f : Fragment S) (name : Bytes) → fragment_meant fragments name ≡ Some f → All (WrittenWithin fragments (length fragments)) (names_in f.selection_set)) → Settled fragments
    unfolding written
    settled-within ends f name e = write-more (length fragments) (suc (length fragments)) (omega arith) f.selection_set (ends f name e)
