-- Of a document with whole sets the set of an operation, written out, is full.
use Rattle.std.proofs.Common.{sym, ap, subst, ℕ, suc, ◌≤◌, arith, List, [], ◌∷◌, length, inl, inr}
use Rattle.std.specs.List.{All, Contains, flat_map}
use Rattle.std.proofs.lemmas.List.Elements.{Contains-append_left, Contains-append_right, Contains-append_cases}
use Rattle.graphql_names.specs.Names.{Bytes}
use Rattle.graphql_values.specs.InputValues.{Placed as Positioned}
use Rattle.graphql_tree.specs.Definitions.{fragments_of, fragments_listed}
use Rattle.graphql_tree.specs.declared.document.Definition.{Definition}
use Rattle.graphql_tree.specs.declared.document.Definition.TheVariants as d
use Rattle.graphql_tree.specs.declared.document.Fragment.{Fragment}
use Rattle.graphql_tree.specs.declared.selection.Selection.{Selection}
use Rattle.graphql_schema.specs.Declarations.{Declarations}
use Rattle.graphql_occurrences.specs.Occurrences.{definition_parts, occurrences}
use Rattle.graphql_occurrences.specs.Parts.{Part, AField, ASpread, Condition}
use Rattle.graphql_rules_document.specs.Scopes.{fragment_scopes}
use Rattle.graphql_written_out.specs.Written.{written}
use Rattle.graphql_rules_document.specs.SpreadNames.{names_in, WrittenWithin}
use Rattle.graphql_rules_document.specs.Counted.{IsSpread, AreKnown, FieldTypesAreKnown}
use Rattle.graphql_rules_document.proofs.ListItems.{nothing-in, only-one, all-of, all-from}
use Rattle.graphql_rules_document.proofs.WrittenLevels.{write-more}
use Rattle.graphql_rules_document.proofs.CountedSpreads.{fragment-counted, operation-counted}
use Rattle.graphql_rules_document.proofs.SettledFragments.{meant, within, as-many}
use Rattle.graphql_plain_validity.specs.WholeSets.{IsWholeSet, definition_set}
use Rattle.graphql_plain_validity.specs.Laws.{IsFull, WrittenSetsAreFilled}
use Rattle.graphql_plain_validity.proofs.FullSets.{IsMeant, Sound, write-full}

module _ {S C : Type 0} (schema : Declarations S C) where
  in-parts : (document : List (Definition S)) (x : Definition S) (p : Part S C) → Contains document x → Contains (definition_parts schema x) p → Contains (flat_map (definition_parts schema) document) p
  in-parts [] x p i j = nothing-in x i
  in-parts (y ∷ ys) x p i j = elim (Contains-append_cases (y ∷ []) ys x i) [
    | inl k ↦ Contains-append_left (definition_parts schema y) (flat_map (definition_parts schema) ys) p (subst (λ z. Contains (definition_parts schema z) p) (sym (only-one y x k)) j)
    | inr k ↦ Contains-append_right (definition_parts schema y) (flat_map (definition_parts schema) ys) p (in-parts ys x p k j)
  ]

  known-of : (document : List (Definition S)) (x : Definition S) → Contains document x → AreKnown schema (flat_map (definition_parts schema) document) → AreKnown schema (definition_parts schema x)
  known-of document x i k = record {
    fields = λ f j. k.fields f (in-parts document x (AField f) i j);
    conditions = λ n j. k.conditions n (in-parts document x (Condition n) i j);
  }

  spread-of : (document : List (Definition S)) (x : Definition S) (name : Bytes) → Contains document x → IsSpread (definition_parts schema x) name → IsSpread (flat_map (definition_parts schema) document) name
  spread-of document x name i h = (h.0, in-parts document x (ASpread h.0) i h.1, h.2)

  -- the fragments of a document are definitions of it
  fragment-in : (document : List (Definition S)) (p : Positioned (Fragment S)) → Contains (fragments_of document) p → Contains document (d.Fragment p)
  fragment-in [] p i = nothing-in p i
  fragment-in (d.Operation o ∷ ds) p i = Contains-append_right (d.Operation o ∷ []) ds (d.Fragment p) (fragment-in ds p i)
  fragment-in (d.Fragment g ∷ ds) p i = elim (Contains-append_cases (g ∷ []) (fragments_of ds) p i) [
    | inl j ↦ (0, omega arith, ap d.Fragment (only-one g p j))
    | inr j ↦ Contains-append_right (d.Fragment g ∷ []) ds (d.Fragment p) (fragment-in ds p j)
  ]

  module _ (closed : FieldTypesAreKnown schema) where
    pub written-sets-are-filled : WrittenSetsAreFilled schema
    unfolding written occurrences
    written-sets-are-filled document o whole among root k meant_all ends =
        let fragments : List (Fragment S) = fragments_listed document in
        let n : ℕ = length (fragment_scopes schema document) in
        let set_is_whole : (x : Definition S) → Contains document x → IsWholeSet (definition_set x) =
        λ x i. all-of (λ y. IsWholeSet (definition_set y)) document whole x i in
        let AreMeant : List (Selection S) → Type 0 = λ xs. All (IsMeant fragments) (names_in xs) in
        let all_meant : (x : Definition S) → Contains document x → (xs : List (Selection S))
        → ((name : Bytes) → Contains (names_in xs) name → IsSpread (definition_parts schema x) name) → AreMeant xs =
        λ x i xs counted. all-from (IsMeant fragments) (names_in xs) (λ name j. meant_all name (spread-of document x name i (counted name j))) in
        let sound : Sound fragments =
        λ f name e.
        let p = meant schema closed document k name f e in
        let i = fragment-in document p.0 p.1 in
        subst (λ (g : Fragment S). IsWholeSet g.selection_set × AreMeant g.selection_set) p.2 (
          set_is_whole (d.Fragment p.0) i,
          all_meant (d.Fragment p.0) i p.0.item.selection_set
              (fragment-counted schema closed p.0.item (known-of document (d.Fragment p.0) i k)),
        ) in
        let here : AreMeant o.item.selection_set =
        all_meant (d.Operation o) among o.item.selection_set
        (operation-counted schema closed o.item root (known-of document (d.Operation o) among k)) in
        let levels : All (WrittenWithin fragments n) (names_in o.item.selection_set) =
        all-from (WrittenWithin fragments n) (names_in o.item.selection_set)
        (λ name j. within schema closed document k n name (ends name)) in
        let enough : n ≤ suc (length fragments) = omega (arith, as-many schema closed document k) in
        subst IsFull (write-more fragments n (suc (length fragments)) enough o.item.selection_set levels)
        (write-full fragments sound n o.item.selection_set (set_is_whole (d.Operation o) among) levels here)
