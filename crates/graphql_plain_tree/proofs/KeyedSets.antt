-- In what is written out the key of each field without an alias is its name, and so in its plain set.
use Rattle.std.proofs.Common.{◌≡◌, refl, sym, subst, ℕ, zero, suc, arith, Bool, true, false, List, [], ◌∷◌, map, get_or, length, Option, Some, None, cond}
use Rattle.std.specs.Prelude.{IfSome}
use Rattle.std.specs.List.{All}
use Rattle.std.specs.Option.{is_some}
use Rattle.graphql_names.specs.Names.{Bytes}
use Rattle.graphql_values.specs.InputValues.{Placed}
use Rattle.graphql_tree.specs.declared.document.Fragment.{Fragment}
use Rattle.graphql_tree.specs.declared.selection.FragmentSpread.{FragmentSpread}
use Rattle.graphql_tree.specs.declared.selection.Selection.{Selection}
use Rattle.graphql_tree.proofs.SelectionInduction.{selection_ind}
use Rattle.graphql_written_out.specs.Trees.{Directives, Tree, none, field, inline}
use Rattle.graphql_written_out.specs.Written.{listed, fragment_meant, response_key, Before, chain, spread_as, write_with, write, written}
use Rattle.graphql_written_out.proofs.WrittenEquations.{write_field, write_spread, write_inline}
use Rattle.graphql_plain_tree.specs.Plain.{drops_all, plain_set, plain}
use Rattle.graphql_plain_tree.specs.DocumentTrees.{IsKeyed}

key-is_name : (alias : Option (Placed Bytes)) (name : Placed Bytes) → is_some alias ≡ false → response_key alias name ≡ name.item
key-is_name None name = λ e. refl
key-is_name (Some a) name = λ e. cc

module _ {S : Type 0} where
  -- ---- for a way to write spreads that keeps it so

  module _ (r : FragmentSpread S → Before S) (spread-keyed : (y : FragmentSpread S) (rest : Tree S) → IsKeyed rest → IsKeyed (r y rest)) where
    abbrev w : Selection S → Before S
    w = write_with r

    abbrev Keyed : Selection S → Type 0
    Keyed x = (rest : Tree S) → IsKeyed rest → IsKeyed (w x rest)

    keyed-chain : (xs : List (Selection S)) → All Keyed xs → (rest : Tree S) → IsKeyed rest → IsKeyed (chain (map w xs) rest)
    keyed-chain [] each rest k = k
    keyed-chain (x ∷ xs) each rest k = each 0 x (omega arith) (chain (map w xs) rest) (keyed-chain xs (λ n d within. each (suc n) d (omega arith)) rest k)

    keyed-listed : (o : Option (List (Selection S))) → IfSome o (All Keyed) → IsKeyed (chain (map w (listed o)) none)
    keyed-listed None h = tt
    keyed-listed (Some xs) h = keyed-chain xs h none tt

    keyed-one : (x : Selection S) → Keyed x
    keyed-one = selection_ind Keyed
        (λ x h rest k. subst IsKeyed (sym (write_field r x rest)) (key-is_name x.item.alias x.item.name, keyed-listed x.item.selection_set h, k))
        (λ x rest k. subst IsKeyed (sym (write_spread r x rest)) (spread-keyed x.item rest k))
        (λ x h rest k. subst IsKeyed (sym (write_inline r x rest)) (keyed-chain x.item.selection_set h none tt, k))

    keyed-set : (xs : List (Selection S)) → IsKeyed (chain (map w xs) none)
    keyed-set xs = keyed-chain xs (λ n d within. keyed-one (get_or xs n d)) none tt

  -- ---- to a depth

  module _ (fragments : List (Fragment S)) where
    keyed-spread : (n : ℕ) → ((xs : List (Selection S)) → IsKeyed (write n fragments xs)) → (directives : Directives S) (rest : Tree S) (o : Option (Fragment S)) → IsKeyed rest
        → IsKeyed (spread_as (write n fragments) directives rest o)
    keyed-spread n h directives rest None k = k
    keyed-spread n h directives rest (Some f) k = (h f.selection_set, k)

    keyed-write : (n : ℕ) (xs : List (Selection S)) → IsKeyed (write n fragments xs)
    keyed-write zero xs = keyed-set (λ y rest. rest) (λ y rest k. k) xs
    keyed-write (suc n) xs =
        keyed-set (λ y rest. spread_as (write n fragments) (listed y.directives) rest (fragment_meant fragments y.name.item))
        (λ y rest k. keyed-spread n (keyed-write n) (listed y.directives) rest (fragment_meant fragments y.name.item) k) xs

    pub keyed-written : (xs : List (Selection S)) → IsKeyed (written fragments xs)
    unfolding written
    keyed-written xs = keyed-write (suc (length fragments)) xs

  -- ---- of a plain set

  module _ (drops : Directives S → Bool) (stand_in : Directives S) where
    abbrev set : Bool → Tree S → Tree S
    set = plain_set drops stand_in

    abbrev p : Tree S → Tree S
    p = plain drops stand_in

    keyed : (t : Tree S) (out : Bool) → IsKeyed t → IsKeyed (set out t)
    keyed none out h = tt
    keyed (field head directives below rest) true h = (h.0, keyed below (drops_all drops below) h.1, tt)
    keyed (field head directives below rest) false h =
        elim (drops directives) as (λ d. IsKeyed (cond d (set false rest) (field head [] (p below) (set false rest))))
        [ true ↦ keyed rest false h.2 | false ↦ (h.0, keyed below (drops_all drops below) h.1, keyed rest false h.2) ]
    keyed (inline on directives below rest) true h = (keyed below (drops_all drops below) h.0, tt)
    keyed (inline on directives below rest) false h =
        elim (drops directives) as (λ d. IsKeyed (cond d (set false rest) (inline on [] (p below) (set false rest))))
        [ true ↦ keyed rest false h.1 | false ↦ (keyed below (drops_all drops below) h.0, keyed rest false h.1) ]

    pub keyed-plain : (t : Tree S) → IsKeyed t → IsKeyed (p t)
    keyed-plain t = keyed t (drops_all drops t)
