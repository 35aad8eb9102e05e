-- What a spread brings.
use Rattle.graphql_scalars.specs.ScalarAnswers.{ScalarAnswer}
use Rattle.std.proofs.Common.{◌≡◌, ◌⊎◌, inl, inr, sym, ◌∙◌, ap, subst, ◌<◌, true, false, List, [], Some, None}
use Rattle.std.specs.List.{list_any}
use Rattle.std.specs.Str.{bytes_eq}
use Rattle.graphql_values.specs.InputValues.{Placed}
use Rattle.graphql_tree.specs.declared.document.Fragment.{Fragment}
use Rattle.graphql_tree.specs.declared.selection.FragmentSpread.{FragmentSpread}
use Rattle.graphql_tree.specs.declared.selection.Selection.TheVariants as selection
use Rattle.graphql_collected.specs.declared.request.Request.{Request}
use Rattle.graphql_written_out.specs.Trees.{Tree, height}
use Rattle.graphql_names.specs.Names.{Bytes}
use Rattle.graphql_written_out.specs.Written.{fragment_meant}
use Rattle.graphql_written_out.specs.Written.{listed, written_selection, written, Settled}
use Rattle.graphql_collected.specs.Requests.{drops_in, is_below_in, fragments_in, fields_in}
use Rattle.graphql_written_out.proofs.Layers.{out-Spread, unknown-Spread, other-Spread, in-Spread, height-of-Spread}
use Rattle.graphql_collect.specs.Collecting.{meaning_of, means_in, Entered, Stands, Enters}

module _ {S C : Type 0} (answer : S → ScalarAnswer) (request : Request S C) (object : Bytes) where
  abbrev spread_one : Placed (FragmentSpread S) → Tree S
  spread_one x = written_selection (fragments_in request) (selection.FragmentSpread x)

  abbrev BringsNothing : List Bytes → Placed (FragmentSpread S) → Type 0
  BringsNothing visited x = (fields_in answer request object (spread_one x) ≡ []) ⊎ Entered answer request object visited (spread_one x)

  pub bring-out : (visited : List Bytes) (x : Placed (FragmentSpread S)) → drops_in answer request (listed x.item.directives) ≡ true → BringsNothing visited x
  bring-out visited x t = inl (sym (out-Spread (fragments_in request) (drops_in answer request) (is_below_in request object) x t))

  pub bring-unknown : (visited : List Bytes) (x : Placed (FragmentSpread S)) → fragment_meant (fragments_in request) x.item.name.item ≡ None → BringsNothing visited x
  bring-unknown visited x e = inl (sym (unknown-Spread (fragments_in request) (drops_in answer request) (is_below_in request object) x e))

  module _ (visited : List Bytes) (x : Placed (FragmentSpread S)) (f : Fragment S) (t : drops_in answer request (listed x.item.directives) ≡ false)
      (e : fragment_meant (fragments_in request) x.item.name.item ≡ Some f) where
    pub bring-other : is_below_in request object f.type_condition.item ≡ false → BringsNothing visited x
    bring-other a = inl (sym (other-Spread (fragments_in request) (drops_in answer request) (is_below_in request object) x f t e a))

    meaning : means_in request x.item.name.item ≡ (f.type_condition.item, written (fragments_in request) f.selection_set)
    unfolding means_in
    meaning = ap (meaning_of request) e

    module _ (settled : Settled (fragments_in request)) (a : is_below_in request object f.type_condition.item ≡ true) where
      pub stands : Stands answer request object (spread_one x) (written (fragments_in request) f.selection_set)
      stands = record {
        same = sym (in-Spread (fragments_in request) (drops_in answer request) (is_below_in request object) settled x f t e a);
        lower = height-of-Spread (fragments_in request) settled x f e;
      }

      pub bring-entered : list_any (bytes_eq x.item.name.item) visited ≡ true → BringsNothing visited x
      bring-entered v = inr (record {
        name = x.item.name.item;
        is_visited = v;
        applies = ap (λ (m : Bytes × Tree S). is_below_in request object m.0) meaning ∙ a;
        lower = subst (λ (m : Bytes × Tree S). height m.1 < height (spread_one x)) (sym meaning) stands.lower;
        same = stands.same ∙ sym (ap (λ (m : Bytes × Tree S). fields_in answer request object m.1) meaning);
      })

      pub bring-fragment : list_any (bytes_eq x.item.name.item) visited ≡ false → Enters answer request object visited (spread_one x) (written (fragments_in request) f.selection_set) x.item.name.item
      bring-fragment v = record { stands = stands; means = sym (ap (λ (m : Bytes × Tree S). m.1) meaning); first = v }
