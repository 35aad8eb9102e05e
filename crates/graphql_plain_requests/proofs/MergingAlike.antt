-- Fields merge in a document where they do in one that differs in places alone.
use Rattle.std.proofs.Common.{◌≡◌, refl, sym, ◌∙◌, ap, subst, Bool, List, [], ◌∷◌, ◌++◌, map}
use Rattle.std.specs.Cmp.{IsEquivalence}
use Rattle.std.specs.List.{Contains, flat_map}
use Rattle.std.proofs.lemmas.List.{map-append}
use Rattle.graphql_tree.specs.Definitions.{fragments_listed}
use Rattle.graphql_tree.specs.Unlocated.{unlocated_definition, unlocated_document, unlocated_fragment}
use Rattle.graphql_tree.specs.declared.document.Definition.{Definition}
use Rattle.graphql_tree.specs.declared.document.Definition.TheVariants as definition
use Rattle.graphql_tree.specs.declared.document.Fragment.{Fragment}
use Rattle.graphql_schema.specs.Declarations.{Declarations}
use Rattle.graphql_schema.specs.Lookups.{type_named}
use Rattle.graphql_schema.specs.declared.meta.MetaType.{MetaType}
use Rattle.graphql_occurrences.specs.DeclaredLookups.{root_of}
use Rattle.graphql_written_out.specs.Trees.{Tree, none, field, inline}
use Rattle.graphql_merging.specs.Members.{Scope, inside, members}
use Rattle.graphql_merging.specs.Merging.{Merging as Merges}
use Rattle.graphql_merging.specs.Sets.{Set, definition_sets, document_sets, members_of, scope_of_field, set_of, sets_in, sets_of}
use Rattle.graphql_rules_document.proofs.ListItems.{all-from, all-of, contains-map, image-of}
use Rattle.graphql_plain_validity.specs.MergingLaws.{FieldsMerge}
use Rattle.graphql_plain_validity.proofs.MergingWithoutPlaces.{merging-without-places}
use Rattle.graphql_moved.specs.UnlocatedTrees.{unlocated_tree}
use Rattle.graphql_moved.proofs.UnlocatedWritten.{fragments-unlocated, written-unlocated}
use Rattle.graphql_plain_requests.proofs.Erased.{flat-mapped}

module _ {S C : Type 0} where
  abbrev B : Set S C → Set S C
  B s = record { scope = s.scope; tree = unlocated_tree s.tree }

  module _ (types : List (MetaType S C)) where
    sets-unlocated : (scope : Scope S C) (t : Tree S) → sets_in types scope (unlocated_tree t)
        ≡ map B (sets_in types scope t)
    sets-unlocated scope none = refl
    sets-unlocated scope (field head directives below rest) =
        let at = scope_of_field types scope head.name in
        let own : Set S C = record { scope = at; tree = below } in
        (λ i. (B own ∷ sets-unlocated at below i) ++ sets-unlocated scope rest i)
        ∙ sym (map-append B (own ∷ sets_in types at below) (sets_in types scope rest))
    sets-unlocated scope (inline on directives below rest) =
        let at = inside types scope on in
        let own : Set S C = record { scope = at; tree = below } in
        (λ i. (B own ∷ sets-unlocated at below i) ++ sets-unlocated scope rest i)
        ∙ sym (map-append B (own ∷ sets_in types at below) (sets_in types scope rest))

    sets-of-unlocated : (s : Set S C) → sets_of types (B s) ≡ map B (sets_of types s)
    sets-of-unlocated s = ap (λ ss. B s ∷ ss) (sets-unlocated s.scope s.tree)

  module _ (schema : Declarations S C) where
    set-unlocated : (fs : List (Fragment S)) (x : Definition S)
        → set_of schema (map unlocated_fragment fs) (unlocated_definition x)
        ≡ B (set_of schema fs x)
    set-unlocated fs (definition.Operation o) = λ i.
        record {
          scope = root_of schema o.item.operation_type;
          tree = written-unlocated fs
              o.item.selection_set i;
        }
    set-unlocated fs (definition.Fragment f) = λ i.
        record {
          scope = type_named schema.types f.item.type_condition.item;
          tree = written-unlocated fs
              f.item.selection_set i;
        }

    each-set : (fs : List (Fragment S)) (xs : List (Definition S))
        → map (set_of schema (map unlocated_fragment fs)) (map unlocated_definition xs)
        ≡ map B (map (set_of schema fs) xs)
    each-set fs [] = refl
    each-set fs (x ∷ xs) = λ i. set-unlocated fs x i ∷ each-set fs xs i

    document-unlocated : (d : List (Definition S)) → document_sets schema (unlocated_document d)
        ≡ map B (document_sets schema d)
    document-unlocated d =
        ap (λ (fs : List (Fragment S)). flat_map (sets_of schema.types)
        (map (set_of schema fs) (unlocated_document d))) (fragments-unlocated d)
        ∙ ap (flat_map (sets_of schema.types)) (each-set (fragments_listed d) d)
        ∙ flat-mapped B B (sets_of schema.types) (sets_of schema.types) (sets-of-unlocated schema.types)
        (definition_sets schema d)

    module _ (eq : S → S → Bool) (laws : IsEquivalence eq) (document again : List (Definition S))
        (alike : unlocated_document document ≡ unlocated_document again) where
      abbrev M : Set S C → Type 0
      M set = Merges eq schema.types (members_of schema.types set)

      pub merging-alike : FieldsMerge eq schema document → FieldsMerge eq schema again
      merging-alike h =
          all-from M (document_sets schema again) (λ s i.
          let r = image-of B (document_sets schema document) (B s)
          (subst (λ ss. Contains ss (B s))
          (sym (document-unlocated again) ∙ ap (document_sets schema) (sym alike)
          ∙ document-unlocated document)
          (contains-map B (document_sets schema again) s i)) in
          let scope : r.0.scope ≡ s.scope = ap (λ (x : Set S C). x.scope) r.2 in
          let tree : unlocated_tree r.0.tree ≡ unlocated_tree s.tree = ap (λ (x : Set S C). x.tree) r.2 in
          merging-without-places S C eq laws schema.types s.scope r.0.tree s.tree tree
          (subst (λ (x : Scope S C). Merges eq schema.types (members schema.types x r.0.tree))
          scope
          (all-of M (document_sets schema document) h r.0 r.1)))
