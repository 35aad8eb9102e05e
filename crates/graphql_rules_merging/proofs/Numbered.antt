-- What a table holds at a number.
use Rattle.std.proofs.Common.{◌≡◌, refl, ap, sym, ℕ, List, [], ◌∷◌, map, Some, None, slice_get}
use Rattle.std.specs.Option.{option_map_or}
use Rattle.graphql_tree.specs.declared.document.Fragment.{Fragment}
use Rattle.graphql_merging.specs.declared.table.SetTable.{SetTable}
use Rattle.graphql_merging.specs.declared.table.WrittenSet.{WrittenSet}
use Rattle.graphql_merging.specs.Tables.{piece_field, pieces_of}
use Rattle.graphql_bundles.specs.Groups.{fields_in}
use Rattle.graphql_rules_merging.specs.Agenda.{IsEmptyPiece}

pub map_empty : {A B : Type 0} (f : A → B) (xs : List A) → map f xs ≡ [] → xs ≡ []
map_empty f [] e = refl
map_empty f (x ∷ xs) e = cc

module _ {S C : Type 0} (fragments : List (Fragment S)) (table : SetTable S C) (p : ℕ) (set : WrittenSet S C) (at : Some set ≡ slice_get table.sets p) where
  pub direct_at : (pieces_of fragments table).direct p ≡ map (piece_field fragments) set.fields
  direct_at = ap (λ o. map (piece_field {C = C} fragments) (option_map_or (λ (s : WrittenSet S C). s.fields) o [])) (sym at)

  pub inner_at : (pieces_of fragments table).inner p ≡ set.inner
  inner_at = ap (λ o. option_map_or (λ (s : WrittenSet S C). s.inner) o []) (sym at)

pub fields-of : {S C : Type 0} (table : SetTable S C) (p : ℕ) (set : WrittenSet S C) → Some set ≡ slice_get table.sets p → set.fields ≡ fields_in table p
fields-of {C = C} table p set at = ap (λ o. option_map_or (λ (s : WrittenSet _ C). s.fields) o []) at

-- nothing stands at a number that the table does not have
pub empty_at : {S C : Type 0} (fragments : List (Fragment S)) (table : SetTable S C) (p : ℕ) → None ≡ slice_get table.sets p → IsEmptyPiece (pieces_of fragments table) p
empty_at {C = C} fragments table p at = (
  ap (λ o. map (piece_field {C = C} fragments) (option_map_or (λ (s : WrittenSet _ C). s.fields) o [])) (sym at),
  ap (λ o. option_map_or (λ (s : WrittenSet _ C). s.inner) o []) (sym at),
)
