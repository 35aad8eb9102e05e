-- The names of the object types among the parents of fields.
use Rattle.std.proofs.Common.{◌≡◌, ap, sym, subst, ◌∙◌, Bool, true, false, cond, fold, List, [], ◌∷◌, ◌++◌, inl, inr}
use Rattle.std.specs.List.{Contains, list_any}
use Rattle.std.specs.Str.{bytes_eq}
use Rattle.std.proofs.lemmas.List.Elements.{Contains-append_left}
use Rattle.std.proofs.lemmas.Slice.Eq.{bytes_eq-Decides}
use Rattle.indexmap.specs.IndexSet.{insert_key}
use Rattle.indexmap.proofs.CallerLemmas.{Contains-insert_key}
use Rattle.graphql_names.specs.Names.{Bytes}
use Rattle.graphql_schema.specs.Lookups.{own_name, is_object}
use Rattle.graphql_merging.specs.declared.table.WrittenField.{WrittenField}
use Rattle.graphql_merging.proofs.Nested.{in-nothing}
use Rattle.graphql_bundles.specs.Groups.{with_name, names_in}
use Rattle.graphql_bundles.proofs.ListLemmas.{first_or_rest}

module _ {S C : Type 0} where
  one-kept : (names : List Bytes) (f : WrittenField S C) (n : Bytes) → Contains names n → Contains (with_name names f) n
  one-kept names f n i = cases (is_object f.selected.parent.now) (list_any (bytes_eq (own_name f.selected.parent.now)) names)
    where
      cases : (o q : Bool) → Contains (cond o (cond q names (names ++ own_name f.selected.parent.now ∷ [])) names) n
      cases true true = i
      cases true false = Contains-append_left names (own_name f.selected.parent.now ∷ []) n i
      cases false q = i

  one-there : (names : List Bytes) (f : WrittenField S C) → is_object f.selected.parent.now ≡ true → Contains (with_name names f) (own_name f.selected.parent.now)
  one-there names f e =
      let added = Contains-insert_key bytes_eq (λ x y same. (bytes_eq-Decides x y).0 same) names (own_name f.selected.parent.now) in
      subst (λ o. Contains (cond o (insert_key bytes_eq names (own_name f.selected.parent.now)) names) (own_name f.selected.parent.now)) (sym e) added

  kept : (names : List Bytes) (fs : List (WrittenField S C)) (n : Bytes) → Contains names n → Contains (fold with_name names fs) n
  kept names [] n i = i
  kept names (f ∷ fs) n i = kept (with_name names f) fs n (one-kept names f n i)

  among : (names : List Bytes) (fs : List (WrittenField S C)) (f : WrittenField S C) → Contains fs f → is_object f.selected.parent.now ≡ true
      → Contains (fold with_name names fs) (own_name f.selected.parent.now)
  among names [] f i e = in-nothing f i
  among names (g ∷ fs) f i e = elim (first_or_rest g fs f i) [
    | inl q ↦ subst (λ (h : WrittenField S C). Contains (fold with_name (with_name names g) fs) (own_name h.selected.parent.now)) q
        (kept (with_name names g) fs (own_name g.selected.parent.now)
        (one-there names g (ap (λ (h : WrittenField S C). is_object h.selected.parent.now) q ∙ e)))
    | inr j ↦ among (with_name names g) fs f j e
  ]

  -- the name of an object type among them
  pub name-there : (fs : List (WrittenField S C)) (f : WrittenField S C) → Contains fs f → is_object f.selected.parent.now ≡ true
      → Contains (names_in fs) (own_name f.selected.parent.now)
  name-there fs f i e = among [] fs f i e
