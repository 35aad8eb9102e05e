-- A selection, written out in front of what follows it.
use Rattle.std.proofs.Common.{◌≡◌, refl, sym, ◌∙◌, ap, ℕ, suc, ◌+◌, ◌<◌, ◌&&◌, List, ◌∷◌, length, get_or, drop, drop-cons, add-one, Option, Some, None}
use Rattle.graphql_scalars.specs.ScalarAnswers.{ScalarAnswer}
use Rattle.graphql_values.specs.InputValues.{Placed}
use Rattle.graphql_tree.specs.declared.document.Fragment.{Fragment}
use Rattle.graphql_tree.specs.declared.selection.Field.{Field}
use Rattle.graphql_tree.specs.declared.selection.FragmentSpread.{FragmentSpread}
use Rattle.graphql_tree.specs.declared.selection.InlineFragment.{InlineFragment}
use Rattle.graphql_tree.specs.declared.selection.Selection.{Selection}
use Rattle.graphql_tree.specs.declared.selection.Selection.TheVariants as selection
use Rattle.graphql_written_out.specs.Trees.{Tree, field, inline}
use Rattle.graphql_written_out.specs.Written.{condition_of, fragment_meant, head_of, listed, Settled, spread_as, write, written}
use Rattle.graphql_written_out.proofs.Layers.{written-cons, deep-Field, deep-Inline, deep-Spread}
use Rattle.graphql_plain_print.specs.declared.plan.Plan.{Plan}
use Rattle.graphql_plain_print.specs.declared.written.Written.{Written}
use Rattle.graphql_plain_print.specs.declared.written.Written.TheVariants as form
use Rattle.graphql_plain_print.specs.Leads.{IsField, IsInline, IsSpread, leads, out_by}
use Rattle.graphql_plain_print.specs.Plans.{all_out_by, fragments_by, written_by}

module _ {S : Type 0} (fragments : List (Fragment S)) where
  of-field : (x : Placed (Field S)) (xs : List (Selection S))
      → written fragments (selection.Field x ∷ xs)
      ≡ field (head_of x) (listed x.item.directives) (written fragments (listed x.item.selection_set)) (written fragments xs)
  of-field x xs = written-cons fragments (selection.Field x) xs ∙ deep-Field fragments x (written fragments xs)

  of-inline : (x : Placed (InlineFragment S)) (xs : List (Selection S))
      → written fragments (selection.InlineFragment x ∷ xs)
      ≡ inline (condition_of x.item) (listed x.item.directives) (written fragments x.item.selection_set) (written fragments xs)
  of-inline x xs = written-cons fragments (selection.InlineFragment x) xs ∙ deep-Inline fragments x (written fragments xs)

  spread-is : (x : Placed (FragmentSpread S)) (xs : List (Selection S)) (o : Option (Fragment S)) → fragment_meant fragments x.item.name.item ≡ o
      → written fragments (selection.FragmentSpread x ∷ xs) ≡ spread_as (write (length fragments) fragments) (listed x.item.directives) (written fragments xs) o
  spread-is x xs o e =
      written-cons fragments (selection.FragmentSpread x) xs ∙ deep-Spread fragments x (written fragments xs)
      ∙ ap (spread_as (write (length fragments) fragments) (listed x.item.directives) (written fragments xs)) e

  -- a spread of no fragment is nothing
  pub of-nothing : (x : Placed (FragmentSpread S)) (xs : List (Selection S)) → fragment_meant fragments x.item.name.item ≡ None
      → written fragments (selection.FragmentSpread x ∷ xs) ≡ written fragments xs
  of-nothing x xs e = spread-is x xs None e

  of-spread : Settled fragments → (x : Placed (FragmentSpread S)) (xs : List (Selection S)) (f : Fragment S)
      → fragment_meant fragments x.item.name.item ≡ Some f
      → written fragments (selection.FragmentSpread x ∷ xs)
      ≡ inline (Some f.type_condition.item) (listed x.item.directives) (written fragments f.selection_set) (written fragments xs)
  of-spread settled x xs f e =
      spread-is x xs (Some f) e
      ∙ ap (λ below. inline (Some f.type_condition.item) (listed x.item.directives) below (written fragments xs)) (settled f x.item.name.item e)

module _ {S : Type 0} (plan : Plan S) where
  abbrev fs : List (Fragment S)
  fs = fragments_by plan

  pub field-leads : (x : Placed (Field S)) (w : Written S) → IsField x w → (xs : List (Selection S))
      → written_by plan (selection.Field x ∷ xs) ≡ leads plan w (written_by plan xs)
  field-leads x (form.Field y) h xs =
      of-field fs x xs
      ∙ ap (λ z. field (head_of z) (listed z.item.directives) (written_by plan (listed z.item.selection_set)) (written_by plan xs)) (sym h)
  field-leads x (form.Inline on directives set) h xs = absurd h

  pub inline-leads : (x : Placed (InlineFragment S)) (w : Written S) → IsInline x.item w → (xs : List (Selection S))
      → written_by plan (selection.InlineFragment x ∷ xs) ≡ leads plan w (written_by plan xs)
  inline-leads x (form.Field y) h xs = absurd h
  inline-leads x (form.Inline on directives set) h xs =
      of-inline fs x xs ∙ (λ i. inline (sym h.0 i) (listed (sym h.1 i)) (written_by plan (sym h.2 i)) (written_by plan xs))

  pub spread-leads : Settled fs → (x : Placed (FragmentSpread S)) (f : Fragment S) (w : Written S)
      → fragment_meant fs x.item.name.item ≡ Some f → IsSpread f x.item.directives w → (xs : List (Selection S))
      → written_by plan (selection.FragmentSpread x ∷ xs) ≡ leads plan w (written_by plan xs)
  spread-leads settled x f (form.Field y) e h xs = absurd h
  spread-leads settled x f (form.Inline on directives set) e h xs =
      of-spread fs settled x xs f e ∙ (λ i. inline (sym h.0 i) (listed (sym h.1 i)) (written_by plan (sym h.2 i)) (written_by plan xs))

  pub all-out : (answer : S → ScalarAnswer) (w : Written S) (rest : Tree S)
      → all_out_by answer plan (leads plan w rest) ≡ (out_by answer plan w && all_out_by answer plan rest)
  all-out answer (form.Field x) rest = refl
  all-out answer (form.Inline on directives set) rest = refl

pub drop-first : {A : Type 0} (xs : List A) (k : ℕ) (x : A) → k < length xs → x ≡ get_or xs k x → drop k xs ≡ x ∷ drop (k + 1) xs
drop-first xs k x within is = rw (add-one, drop-cons xs k x) (ap (λ z. z ∷ drop (suc k) xs) (sym is))
