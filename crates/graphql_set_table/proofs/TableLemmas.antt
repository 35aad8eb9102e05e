-- A table, set by set.
use Rattle.std.proofs.Common.{◌≡◌, refl, ap, sym, subst, ◌∙◌, ◌⊎◌, inl, inr, ℕ, zero, suc, ◌+◌, ◌<◌, ◌≤◌, arith}
use Rattle.std.proofs.Common.{List, [], ◌∷◌, ◌++◌, map, Option, Some, None, length, take, drop, get_or, slice_get}
use Rattle.std.specs.Option.{option_map}
use Rattle.std.proofs.lemmas.List.{length-append, length-map, take-append-le}
use Rattle.std.proofs.lemmas.List.Sums.{sum_by-cons, sum_by_push, sum_by-take-drop, sum_by_more}
use Rattle.std.proofs.lemmas.Option.{slice_get_cases, slice_get_within, slice_get-map, get_or_from_slice_get}
use Rattle.graphql_tree.specs.declared.document.Definition.{Definition}
use Rattle.graphql_tree.specs.declared.document.Definition.TheVariants as definition
use Rattle.graphql_schema.specs.Declarations.{Declarations}
use Rattle.graphql_merging.specs.FieldNodes.{set_nodes, definition_nodes, document_nodes, fields_written}
use Rattle.graphql_merging.specs.declared.table.WrittenSet.{WrittenSet}
use Rattle.graphql_set_table.specs.declared.open_set.OpenSet.{OpenSet}
use Rattle.graphql_set_table.specs.Numbered.{DefinitionsFirst, IsSetOf, IsTable}
use Rattle.graphql_set_table.specs.Reading.{Extends, nodes_in, set_at, sets_at}
use Rattle.graphql_set_table.specs.SetsAt.{SetAt, definition_set}
use Rattle.graphql_set_table.proofs.ReadingLemmas.{extends-at, set-later}

module _ {X : Type 0} where
  before-or-last : (xs : List X) (x y : X) (k : ℕ) → slice_get (xs ++ x ∷ []) k ≡ Some y
      → (slice_get xs k ≡ Some y) ⊎ ((k ≡ length xs) × (x ≡ y))
  before-or-last [] x y zero e = inr (refl, cc)
  before-or-last [] x y (suc k) e = cc
  before-or-last (z ∷ xs) x y zero e = inl e
  before-or-last (z ∷ xs) x y (suc k) e =
      elim (before-or-last xs x y k e) [ inl h ↦ inl h | inr h ↦ inr (ap suc h.0, h.1) ]

  past : (xs : List X) (k : ℕ) → slice_get xs k ≡ None → length xs ≤ k
  past xs k e = elim ((slice_get_cases xs k).1) [ inl h ↦ absurd (some-none h.0 (sym h.2 ∙ e)) | inr h ↦ h.0 ]
    where
      some-none : (x : X) → Some x ≡ None → ⊥
      some-none x e = cc

  same-item : (o : Option X) (x y : X) → o ≡ Some x → o ≡ Some y → x ≡ y
  same-item o x y e f = cc

module _ {S C : Type 0} where
  -- a set that has a number keeps it
  kept : (ahead new : List (OpenSet S C)) (n : ℕ) (o : OpenSet S C) → slice_get ahead n ≡ Some o
      → Extends (sets_at ahead) (sets_at new) → slice_get (sets_at new) n ≡ Some (set_at o)
  kept ahead new n o at grows =
      let there = slice_get-map set_at ahead n ∙ ap (option_map set_at) at in
      extends-at (sets_at ahead) (sets_at new) grows n (set_at o) there

  abbrev nodes-at : SetAt S C → ℕ
  nodes-at set = set_nodes set.selections

  -- a set more is read: what is taken up and what is still to be read is not more than before
  pub once-more : (sets more : List (WrittenSet S C)) (ahead new : List (OpenSet S C)) (o : OpenSet S C)
      (w : WrittenSet S C) (most : ℕ) → slice_get ahead (length sets) ≡ Some o
      → Extends (sets_at ahead) (sets_at new) → more ≡ sets ++ w ∷ []
      → length w.fields + nodes_in (sets_at new) ≤ nodes_in (sets_at ahead) + set_nodes o.selections.now
      → fields_written sets + nodes_in (drop (length sets) (sets_at ahead)) ≤ most
      → fields_written more + nodes_in (drop (length more) (sets_at new)) ≤ most
  unfolding nodes_in fields_written
  once-more sets more ahead new o w most at grows grown spent before =
      let n = length sets in
      let one : length more ≡ n + 1 = ap (λ xs. length xs) grown ∙ length-append sets (w ∷ []) in
      let here : slice_get (sets_at new) n ≡ Some (set_at o) = kept ahead new n o at grows in
      let within : n < length (sets_at new) = slice_get_within (sets_at new) n (set_at o) here in
      let lengths : length (sets_at ahead) ≡ length ahead = length-map ahead set_at in
      let inside : n ≤ length (sets_at ahead) = omega (arith, lengths, slice_get_within ahead n o at) in
      let taken : take n (sets_at new) ≡ take n (sets_at ahead)
      = ap (take n) grows.1 ∙ take-append-le n (sets_at ahead) grows.0 inside in
      let read : nodes_in (take n (sets_at new)) ≡ nodes_in (take n (sets_at ahead)) = ap nodes_in taken in
      let last : nodes-at (get_or (sets_at new) n (set_at o)) ≡ set_nodes o.selections.now
      = ap nodes-at (get_or_from_slice_get (sets_at new) n (set_at o) (set_at o) here) in
      let step : nodes_in (take (n + 1) (sets_at new))
      ≡ nodes_in (take n (sets_at new)) + nodes-at (get_or (sets_at new) n (set_at o))
      = sum_by_more nodes-at (sets_at new) n (set_at o) within in
      let old_parts : nodes_in (take n (sets_at ahead)) + nodes_in (drop n (sets_at ahead)) ≡ nodes_in (sets_at ahead)
      = sum_by-take-drop nodes-at (sets_at ahead) n in
      let new_parts : nodes_in (take (n + 1) (sets_at new)) + nodes_in (drop (n + 1) (sets_at new))
      ≡ nodes_in (sets_at new)
      = sum_by-take-drop nodes-at (sets_at new) (n + 1) in
      let rest : nodes_in (drop (length more) (sets_at new)) ≡ nodes_in (drop (n + 1) (sets_at new))
      = ap (λ k. nodes_in (drop k (sets_at new))) one in
      let taken_up : fields_written more ≡ fields_written sets + length w.fields
      = ap fields_written grown ∙ sum_by_push (λ (s : WrittenSet S C). length s.fields) sets w in
      omega (arith, spent, before, read, last, step, old_parts, new_parts, rest, taken_up)

  -- at first nothing is taken up
  pub once-first : (sets : List (WrittenSet S C)) (all : List (SetAt S C)) → sets ≡ []
      → fields_written sets + nodes_in (drop (length sets) all) ≤ nodes_in all
  unfolding fields_written
  once-first sets all none =
      let empty : fields_written sets ≡ 0 = ap fields_written none in
      let whole : nodes_in (drop (length sets) all) ≡ nodes_in all
      = ap (λ (xs : List (WrittenSet S C)). nodes_in (drop (length xs) all)) none in
      omega (arith, empty, whole)

  module _ (schema : Declarations S C) where
    nodes-of : (d : Definition S) → nodes-at (definition_set schema d) ≡ definition_nodes d
    nodes-of (definition.Operation o) = refl
    nodes-of (definition.Fragment f) = refl

    -- in the sets of the definitions each field of the document is written
    pub nodes-first : (document : List (Definition S))
        → nodes_in (map (definition_set schema) document) ≡ document_nodes document
    unfolding nodes_in document_nodes
    nodes-first [] = refl
    nodes-first (d ∷ ds) =
        sum_by-cons nodes-at (definition_set schema d) (map (definition_set schema) ds)
        ∙ (λ i. nodes-of d i + nodes-first ds i) ∙ sym (sum_by-cons definition_nodes d ds)

module _ {S C : Type 0} (schema : Declarations S C) (document : List (Definition S)) where
  -- the sets that are read
  abbrev pub AreRead : List (SetAt S C) → List (WrittenSet S C) → Type 0
  AreRead all sets = (k : ℕ) (written : WrittenSet S C) (set : SetAt S C)
      → slice_get sets k ≡ Some written → slice_get all k ≡ Some set → IsSetOf all schema document written set

  -- at first none
  pub none-read : (all : List (SetAt S C)) (sets : List (WrittenSet S C)) → sets ≡ [] → AreRead all sets
  none-read all sets none k written set e f =
      absurd (nothing-there k written (ap (λ (xs : List (WrittenSet S C)). slice_get xs k) (sym none) ∙ e))
    where
      nothing-there : (k : ℕ) (w : WrittenSet S C) → slice_get [] k ≡ Some w → ⊥
      nothing-there k w e = cc

  -- one set more
  pub read-more : (sets more : List (WrittenSet S C)) (ahead new : List (OpenSet S C)) (o : OpenSet S C)
      (w : WrittenSet S C) → slice_get ahead (length sets) ≡ Some o
      → Extends (sets_at ahead) (sets_at new) → IsSetOf (sets_at new) schema document w (set_at o)
      → more ≡ sets ++ w ∷ [] → AreRead (sets_at ahead) sets → AreRead (sets_at new) more
  read-more sets more ahead new o w at grows here grown before k written set e f =
      elim (before-or-last sets w written k (sym (ap (λ xs. slice_get xs k) grown) ∙ e)) [
        | inl h ↦ earlier h
        | inr h ↦ last h.0 h.1
      ]
    where
      place : slice_get (sets_at ahead) (length sets) ≡ Some (set_at o)
      place = slice_get-map set_at ahead (length sets) ∙ ap (option_map set_at) at

      earlier : slice_get sets k ≡ Some written → IsSetOf (sets_at new) schema document written set
      earlier h = elim ((slice_get_cases (sets_at ahead) k).1) [
        | inl a ↦ (
            let later = extends-at (sets_at ahead) (sets_at new) grows k a.0 a.2 in
            let same : a.0 ≡ set = same-item (slice_get (sets_at new) k) a.0 set later f in
            let read = before k written a.0 h a.2 in
            subst (IsSetOf (sets_at new) schema document written) same
            (set-later schema document (sets_at ahead) (sets_at new) grows written a.0 read)
            )
        | inr a ↦ (
            let few = slice_get_within sets k written h in
            let many = slice_get_within (sets_at ahead) (length sets) (set_at o) place in
            absurd (omega (arith, a.0, few, many))
            )
      ]

      last : k ≡ length sets → w ≡ written → IsSetOf (sets_at new) schema document written set
      last count is =
          let there = ap (slice_get (sets_at ahead)) count ∙ place in
          let at-last = extends-at (sets_at ahead) (sets_at new) grows k (set_at o) there in
          let same : set_at o ≡ set = same-item (slice_get (sets_at new) k) (set_at o) set at-last f in
          subst (λ v. IsSetOf (sets_at new) schema document v set) is
          (subst (IsSetOf (sets_at new) schema document w) same here)

  -- there are as many sets as are read, or more
  pub count-more : (sets more : List (WrittenSet S C)) (ahead new : List (OpenSet S C)) (o : OpenSet S C)
      (w : WrittenSet S C) → slice_get ahead (length sets) ≡ Some o
      → Extends (sets_at ahead) (sets_at new) → more ≡ sets ++ w ∷ [] → length more ≤ length new
  count-more sets more ahead new o w at grows grown =
      let one : length more ≡ length sets + 1 = ap (λ xs. length xs) grown ∙ length-append sets (w ∷ []) in
      let before : length (sets_at ahead) ≡ length ahead = length-map ahead set_at in
      let after : length (sets_at new) ≡ length new = length-map new set_at in
      let longer : length (sets_at new) ≡ length (sets_at ahead) + length grows.0
      = ap (λ xs. length xs) grows.1 ∙ length-append (sets_at ahead) grows.0 in
      omega (arith, one, before, after, longer, slice_get_within ahead (length sets) o at)

  -- all are read
  pub all-read : (sets : List (WrittenSet S C)) (ahead : List (OpenSet S C)) → slice_get ahead (length sets) ≡ None
      → length sets ≤ length ahead → DefinitionsFirst schema document (sets_at ahead) → AreRead (sets_at ahead) sets
      → IsTable schema document (sets_at ahead) sets
  all-read sets ahead end within first read = record {
    count =
        let lengths : length (sets_at ahead) ≡ length ahead = length-map ahead set_at in
        let most : length ahead ≤ length sets = past ahead (length sets) end in
        omega (arith, lengths, most, within);
    definitions = first;
    each = read;
  }
