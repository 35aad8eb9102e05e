-- What a set holds once it is written out, by what stands directly in it.
use Rattle.std.proofs.Common.{◌≡◌, refl, ap, sym, subst, ◌∙◌, ◌⊎◌, inl, inr, length, append-nil, List, [], ◌∷◌, ◌++◌, Option, Some, None}
use Rattle.std.specs.List.{flat_map}
use Rattle.std.specs.Option.{option_map, option_to_list}
use Rattle.graphql_names.specs.Names.{Bytes}
use Rattle.graphql_values.specs.InputValues.{Placed}
use Rattle.graphql_tree.specs.declared.document.Fragment.{Fragment}
use Rattle.graphql_tree.specs.declared.selection.Field.{Field}
use Rattle.graphql_tree.specs.declared.selection.FragmentSpread.{FragmentSpread}
use Rattle.graphql_tree.specs.declared.selection.InlineFragment.{InlineFragment}
use Rattle.graphql_tree.specs.declared.selection.Selection.{Selection}
use Rattle.graphql_tree.specs.declared.selection.Selection.TheVariants as selection
use Rattle.graphql_tree.proofs.SelectionInduction.{selection_ind}
use Rattle.graphql_schema.specs.declared.meta.MetaType.{MetaType}
use Rattle.graphql_schema.specs.Declarations.{Declarations}
use Rattle.graphql_written_out.specs.Trees.{Directives, Tree, none, field, inline}
use Rattle.graphql_written_out.specs.Written.{listed, fragment_meant, head_of, condition_of, spread_as, write, written, Settled}
use Rattle.graphql_written_out.proofs.Layers.{deep, deep-Field, deep-Spread, deep-Inline, written-cons, written-nil}
use Rattle.graphql_merging.specs.Members.{Member, inside}
use Rattle.graphql_merging.specs.Sets.{Set}
use Rattle.graphql_merging.proofs.DirectFields.{In}
use Rattle.graphql_set_table.specs.SetsAt.{SetAt, FieldAt, Opened, fields_opened, fields_selected, fragment_set, inner_opened, inner_of}
use Rattle.graphql_set_table.proofs.Rows.{in-left, in-right, in-either, in-flat_map, in-flat_map-from}

module _ {S C : Type 0} (fragments : List (Fragment S)) where
  -- a set, written out
  abbrev pub written_set : SetAt S C → Set S C
  written_set set = record { scope = set.scope; tree = written fragments set.selections }

  -- a field, its own set written out
  abbrev pub member_of : FieldAt S C → Member S C
  member_of f = record { parent = f.parent; head = head_of f.field; below = written fragments (listed f.field.item.selection_set) }

module _ {S C : Type 0} (schema : Declarations S C) (fragments : List (Fragment S)) (settled : Settled fragments) where
  -- `read`: what is asked of a set written out, selection by selection
  module _ {X : Type 0} (parent : MetaType S C) (read : Tree S → List X) (of_field : FieldAt S C → List X) (of_inner : SetAt S C → List X)
      (at_none : read none ≡ [])
      (at_field : (x : Placed (Field S)) (directives : Directives S) (rest : Tree S)
      → read (field (head_of x) directives (written fragments (listed x.item.selection_set)) rest) ≡ of_field (record { parent = parent; field = x }) ++ read rest)
      (at_inline : (on : Option Bytes) (directives : Directives S) (set : List (Selection S)) (rest : Tree S)
      → read (inline on directives (written fragments set) rest) ≡ of_inner (record { scope = inside schema.types (Some parent) on; selections = set }) ++ read rest)
    where
      abbrev opened : Opened S → List X
      opened x = flat_map of_field (fields_opened parent x) ++ flat_map of_inner (inner_opened schema fragments parent x)

      abbrev part : Selection S → List X
      part x = flat_map of_field (fields_selected parent x) ++ flat_map of_inner (inner_of schema fragments parent x)

      abbrev Splits : Selection S → Type 0
      Splits x = (rest : Tree S) → read (deep fragments x rest) ≡ part x ++ read rest

      split-field : (x : Placed (Field S)) → Splits (selection.Field x)
      split-field x rest =
          ap read (deep-Field fragments x rest) ∙ at_field x (listed x.item.directives) rest
          ∙ ap (λ xs. xs ++ read rest) (sym (append-nil (of_field (record { parent = parent; field = x }))) ∙ sym (append-nil (of_field (record { parent = parent; field = x }) ++ [])))
          ∙ ap (λ o. opened o ++ read rest) (sym (selection.outs-Field x))

      split-meant : (name : Bytes) (directives : Directives S) (rest : Tree S) (o : Option (Fragment S)) → fragment_meant fragments name ≡ o
          → read (spread_as (write (length fragments) fragments) directives rest o) ≡ flat_map of_inner (option_to_list (option_map (fragment_set schema) o)) ++ read rest
      split-meant name directives rest None e = refl
      split-meant name directives rest (Some f) e =
          ap (λ tree. read (inline (Some f.type_condition.item) directives tree rest)) (settled f name e)
          ∙ at_inline (Some f.type_condition.item) directives f.selection_set rest
          ∙ ap (λ xs. xs ++ read rest) (sym (append-nil (of_inner (fragment_set schema f))))

      split-spread : (x : Placed (FragmentSpread S)) → Splits (selection.FragmentSpread x)
      split-spread x rest =
          ap read (deep-Spread fragments x rest) ∙ split-meant x.item.name.item (listed x.item.directives) rest (fragment_meant fragments x.item.name.item) refl
          ∙ ap (λ o. opened o ++ read rest) (sym (selection.outs-FragmentSpread x))

      split-inline : (x : Placed (InlineFragment S)) → Splits (selection.InlineFragment x)
      split-inline x rest =
          ap read (deep-Inline fragments x rest) ∙ at_inline (condition_of x.item) (listed x.item.directives) x.item.selection_set rest
          ∙ ap (λ xs. xs ++ read rest) (sym (append-nil (of_inner (record { scope = inside schema.types (Some parent) (condition_of x.item); selections = x.item.selection_set }))))
          ∙ ap (λ o. opened o ++ read rest) (sym (selection.outs-InlineFragment x))

      splits : (x : Selection S) → Splits x
      splits = selection_ind Splits (λ x h. split-field x) split-spread (λ x h. split-inline x)

      pub read-written : (xs : List (Selection S)) → read (written fragments xs) ≡ flat_map part xs
      read-written [] = ap read (written-nil fragments) ∙ at_none
      read-written (x ∷ xs) = ap read (written-cons fragments x xs) ∙ splits x (written fragments xs) ∙ ap (λ rest. part x ++ rest) (read-written xs)

      -- what is read is of a field or of a fragment in the set
      pub read-found : (xs : List (Selection S)) (y : X) → In y (read (written fragments xs))
          → ((f : FieldAt S C) × In f (flat_map (fields_selected parent) xs) × In y (of_field f)) ⊎ ((s : SetAt S C) × In s (flat_map (inner_of schema fragments parent) xs) × In y (of_inner s))
      read-found xs y i =
          let r = in-flat_map part y xs (subst (In y) (read-written xs) i) in
          elim (in-either y (flat_map of_field (fields_selected parent r.0)) (flat_map of_inner (inner_of schema fragments parent r.0)) r.2) [
            | inl j ↦ (let q = in-flat_map of_field y (fields_selected parent r.0) j in inl (q.0, in-flat_map-from (fields_selected parent) q.0 r.0 xs r.1 q.1, q.2))
            | inr j ↦ (let q = in-flat_map of_inner y (inner_of schema fragments parent r.0) j in inr (q.0, in-flat_map-from (inner_of schema fragments parent) q.0 r.0 xs r.1 q.1, q.2))
          ]

      pub read-field : (xs : List (Selection S)) (y : X) (f : FieldAt S C) → In f (flat_map (fields_selected parent) xs) → In y (of_field f) → In y (read (written fragments xs))
      read-field xs y f i j =
          let r = in-flat_map (fields_selected parent) f xs i in
          subst (In y) (sym (read-written xs))
          (in-flat_map-from part y r.0 xs r.1 (in-left y _ (flat_map of_inner (inner_of schema fragments parent r.0)) (in-flat_map-from of_field y f (fields_selected parent r.0) r.2 j)))

      pub read-inner : (xs : List (Selection S)) (y : X) (s : SetAt S C) → In s (flat_map (inner_of schema fragments parent) xs) → In y (of_inner s) → In y (read (written fragments xs))
      read-inner xs y s i j =
          let r = in-flat_map (inner_of schema fragments parent) s xs i in
          subst (In y) (sym (read-written xs))
          (in-flat_map-from part y r.0 xs r.1 (in-right y (flat_map of_field (fields_selected parent r.0)) _ (in-flat_map-from of_inner y s (inner_of schema fragments parent r.0) r.2 j)))
