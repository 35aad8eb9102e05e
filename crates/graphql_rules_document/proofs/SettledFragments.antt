-- From what ends to what is settled.
use Rattle.std.proofs.Common.{◌≡◌, refl, sym, ◌∙◌, ap, subst, ℕ, zero, suc, List, [], ◌∷◌, map, length, Option, Some, None, arith, ◌⊎◌, inl, inr}
use Rattle.std.specs.List.{All, Contains, flat_map}
use Rattle.std.proofs.lemmas.List.{length-map}
use Rattle.std.proofs.lemmas.List.Elements.{Contains-append_left, Contains-append_right, Contains-append_cases}
use Rattle.std.proofs.lemmas.Slice.Eq.{bytes_eq-Decides}
use Rattle.graphql_names.specs.Names.{Bytes}
use Rattle.graphql_names.proofs.NameMaps.{found_is_in}
use Rattle.graphql_values.specs.InputValues.{Placed}
use Rattle.graphql_tree.specs.Definitions.{fragments_of}
use Rattle.graphql_tree.specs.declared.document.Definition.{Definition}
use Rattle.graphql_tree.specs.declared.document.Definition.TheVariants as definition
use Rattle.graphql_tree.specs.declared.document.Fragment.{Fragment}
use Rattle.graphql_schema.specs.Declarations.{Declarations}
use Rattle.graphql_occurrences.specs.Occurrences.{definition_parts, fragment_parts, occurrences}
use Rattle.graphql_occurrences.specs.Parts.{Part, SpreadPart, ASpread}
use Rattle.graphql_rules_document.specs.AllRules.{FragmentScope, Spread, fragment_scope, fragment_scopes, spread_at}
use Rattle.graphql_rules_document.specs.Ends.{EndsWithin}
use Rattle.graphql_written_out.specs.Written.{fragment_meant, Settled}
use Rattle.graphql_rules_document.specs.SpreadNames.{names_in, WrittenWithin}
use Rattle.graphql_rules_document.specs.Counted.{AreKnown, FieldTypesAreKnown}
use Rattle.graphql_rules_document.specs.SettledLaws.{EndingFragmentsAreSettled}
use Rattle.graphql_rules_document.proofs.ListItems.{nothing-in, only-one, contains-map, image-of, all-from, all-of}
use Rattle.graphql_rules_document.proofs.CountedSpreads.{known-left, known-right, fragment-counted}
use Rattle.graphql_rules_document.proofs.WrittenLevels.{settled-within}

module _ {S C : Type 0} (schema : Declarations S C) where
  -- what the parts spread stands among the spreads of the scope
  spread-among : (parts : List (Part S C)) (s : SpreadPart S C) → Contains parts (ASpread s) → (t : Spread) × Contains (flat_map spread_at parts) t × (t.name ≡ s.name.item)
  spread-among [] s i = nothing-in _ i
  spread-among (p ∷ parts) s i = elim (Contains-append_cases (p ∷ []) parts (ASpread s) i) [
    | inl j ↦ (
      record { name = s.name.item; place = s.place },
      Contains-append_left (spread_at p) (flat_map spread_at parts) _ (subst (λ q. Contains (spread_at q) (record { name = s.name.item; place = s.place })) (sym (only-one p (ASpread s) j)) (0, omega arith, refl)),
      refl,
    )
    | inr j ↦ (let r = spread-among parts s j in (r.0, Contains-append_right (spread_at p) (flat_map spread_at parts) r.0 r.1, r.2))
  ]

  -- the parts of a fragment are parts of the document
  known-in : (document : List (Definition S)) (f : Placed (Fragment S)) → Contains (fragments_of document) f → AreKnown schema (flat_map (definition_parts schema) document) → AreKnown schema (fragment_parts schema f.item)
  known-in [] f i k = nothing-in f i
  known-in (definition.Operation o ∷ document) f i k = known-in document f i (known-right schema (definition_parts schema (definition.Operation o)) (flat_map (definition_parts schema) document) k)
  known-in (definition.Fragment g ∷ document) f i k =
      either (known-in document f) (Contains-append_cases (g ∷ []) (fragments_of document) f i)
    where
      here : AreKnown schema (fragment_parts schema g.item)
      here = known-left schema (fragment_parts schema g.item) (flat_map (definition_parts schema) document) k

      later : AreKnown schema (flat_map (definition_parts schema) document)
      later = known-right schema (fragment_parts schema g.item) (flat_map (definition_parts schema) document) k

      either : (Contains (fragments_of document) f → AreKnown schema (flat_map (definition_parts schema) document) → AreKnown schema (fragment_parts schema f.item))
          → Contains (g ∷ []) f ⊎ Contains (fragments_of document) f → AreKnown schema (fragment_parts schema f.item)
      either rest (inl j) = subst (λ (h : Placed (Fragment S)). AreKnown schema (fragment_parts schema h.item)) (only-one g f j) here
      either rest (inr j) = rest j later

  module _ (closed : FieldTypesAreKnown schema) (document : List (Definition S)) (known : AreKnown schema (occurrences schema document)) where
    abbrev fragments : List (Fragment S)
    fragments = map (λ f. f.item) (fragments_of document)

    abbrev scopes : List FragmentScope
    scopes = fragment_scopes schema document

    known-fragment : (f : Placed (Fragment S)) → Contains (fragments_of document) f → AreKnown schema (fragment_parts schema f.item)
    unfolding occurrences
    known-fragment f i = known-in document f i known

    -- the fragment of a name, as it stands in the document
    pub meant : (name : Bytes) (f : Fragment S) → fragment_meant fragments name ≡ Some f → (p : Placed (Fragment S)) × Contains (fragments_of document) p × (p.item ≡ f) × (f.name.item ≡ name)
    meant name f e =
        let found = found_is_in (λ (g : Fragment S). g.name.item) fragments name f e in
        let p = image-of (λ (g : Placed (Fragment S)). g.item) (fragments_of document) f found.1 in
        (p.0, p.1, p.2, (bytes_eq-Decides f.name.item name).0 found.0)

    -- what a fragment spreads ends a level earlier
    below : (n : ℕ) (name : Bytes) → EndsWithin scopes (suc n) name → (f : Fragment S) → fragment_meant fragments name ≡ Some f → (m : Bytes) → Contains (names_in f.selection_set) m → EndsWithin scopes n m
    below n name ends f e m i =
        let p = meant name f e in
        let scope = all-of (λ (g : FragmentScope). g.name ≡ name → All (λ s. EndsWithin scopes n s.name) g.spreads) scopes ends (fragment_scope schema p.0) (contains-map (fragment_scope schema) (fragments_of document) p.0 p.1) in
        let spreads = scope (ap (λ (g : Fragment S). g.name.item) p.2 ∙ p.3) in
        let s = fragment-counted schema closed p.0.item (known-fragment p.0 p.1) m (subst (λ (g : Fragment S). Contains (names_in g.selection_set) m) (sym p.2) i) in
        let t = spread-among (fragment_parts schema p.0.item) s.0 s.1 in
        subst (EndsWithin scopes n) (t.2 ∙ s.2) (all-of (λ (u : Spread). EndsWithin scopes n u.name) (fragment_scope schema p.0).spreads spreads t.0 t.1)

    pub within : (n : ℕ) (name : Bytes) → EndsWithin scopes n name → WrittenWithin fragments n name
    within zero name ends = none-meant (fragment_meant fragments name) refl
      where
        none-meant : (o : Option (Fragment S)) → fragment_meant fragments name ≡ o → o ≡ None
        none-meant None e = refl
        none-meant (Some f) e =
            let p = meant name f e in
            absurd (all-of (λ (g : FragmentScope). g.name ≡ name → ⊥) scopes ends (fragment_scope schema p.0) (contains-map (fragment_scope schema) (fragments_of document) p.0 p.1) (ap (λ (g : Fragment S). g.name.item) p.2 ∙ p.3))
    within (suc n) name ends = λ f e. all-from (WrittenWithin fragments n) (names_in f.selection_set) (λ m i. within n m (below n name ends f e m i))

    pub as-many : length scopes ≡ length fragments
    as-many = length-map (fragments_of document) (fragment_scope schema) ∙ sym (length-map (fragments_of document) (λ (f : Placed (Fragment S)). f.item))

    pub settled : ((name : Bytes) → EndsWithin scopes (length scopes) name) → Settled fragments
    settled ends = settled-within fragments (λ f name e. all-from (WrittenWithin fragments (length fragments)) (names_in f.selection_set)
        (λ m i. within (length fragments) m (subst (λ n. EndsWithin scopes n m) as-many (ends m))))

pub ending-fragments-are-settled : {S C : Type 0} (schema : Declarations S C) → FieldTypesAreKnown schema → EndingFragmentsAreSettled schema
ending-fragments-are-settled schema closed document known ends = settled schema closed document known ends
