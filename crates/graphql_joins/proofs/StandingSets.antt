-- The selection sets of a valid document stand under known types, and each merges.
use Rattle.std.proofs.Common.{◌≡◌, refl, sym, ◌∙◌, ap, subst, arith, suc, Bool, List, [], ◌∷◌, ◌++◌, append-nil, length}
use Rattle.std.proofs.Common.{Option, Some, None, inl, inr}
use Rattle.std.specs.List.{Contains, flat_map}
use Rattle.std.specs.Option.{IfSome, IsSome, option_and_then}
use Rattle.std.proofs.lemmas.List.Elements.{Contains-append_left, Contains-append_right, Contains-append_cases}
use Rattle.graphql_names.specs.Names.{Bytes}
use Rattle.graphql_names.proofs.NameLemmas.{same_bytes}
use Rattle.graphql_names.proofs.NameMaps.{found_is_in}
use Rattle.graphql_values.specs.InputValues.{Placed}
use Rattle.graphql_tree.specs.Definitions.{fragments_listed, fragments_of}
use Rattle.graphql_tree.specs.Documents.{variables_in}
use Rattle.graphql_tree.specs.declared.document.Definition.{Definition}
use Rattle.graphql_tree.specs.declared.document.Definition.TheVariants as definition
use Rattle.graphql_tree.specs.declared.document.Fragment.{Fragment}
use Rattle.graphql_tree.specs.declared.document.Operation.{Operation}
use Rattle.graphql_tree.specs.declared.document.OperationType.{OperationType}
use Rattle.graphql_tree.specs.declared.document.OperationType.TheVariants as operation
use Rattle.graphql_tree.specs.declared.selection.Field.{Field}
use Rattle.graphql_tree.specs.declared.selection.InlineFragment.{InlineFragment}
use Rattle.graphql_tree.specs.declared.selection.Selection.{Selection}
use Rattle.graphql_tree.specs.declared.selection.Selection.TheVariants as selection
use Rattle.graphql_schema.specs.declared.directive_location.DirectiveLocation.TheVariants as location
use Rattle.graphql_schema.specs.declared.meta.MetaType.{MetaType}
use Rattle.graphql_schema.specs.Declarations.{Declarations}
use Rattle.graphql_schema.specs.Lookups.{own_name, type_named}
use Rattle.graphql_schema.specs.Types.{TypeOf}
use Rattle.graphql_occurrences.specs.DeclaredLookups.{known, root_of}
use Rattle.graphql_occurrences.specs.Lookups.{location_of}
use Rattle.graphql_occurrences.specs.Occurrences.{definition_parts, directives_parts, occurrences, set_parts}
use Rattle.graphql_occurrences.specs.Occurrences.{variable_parts}
use Rattle.graphql_occurrences.specs.Parts.{AField, Condition, Given}
use Rattle.graphql_written_out.specs.Trees.{Tree, none}
use Rattle.graphql_written_out.specs.Written.{condition_of, fragment_meant, head_of, listed, written}
use Rattle.graphql_written_out.proofs.Layers.{deep, deep-Field, deep-Inline, written-cons}
use Rattle.graphql_rules_document.specs.Counted.{FieldTypesAreKnown}
use Rattle.graphql_rules_document.proofs.CountedSpreads.{among-types, root-among}
use Rattle.graphql_rules_document.proofs.ListItems.{all-of, contains-map, nothing-in, only-one}
use Rattle.graphql_rules_document.proofs.SettledFragments.{meant}
use Rattle.graphql_validation.specs.AllRules.{FieldsMerge}
use Rattle.graphql_validation.specs.WellFormed.{IsWellFormed}
use Rattle.graphql_merging.specs.Members.{Member, Scope, declared_type, inside, members, scope_of}
use Rattle.graphql_merging.specs.Merging.{Merging}
use Rattle.graphql_merging.specs.Sets.{Set, definition_sets, document_sets, members_of, set_of, sets_of}
use Rattle.graphql_merging.proofs.Nested.{merging-below, merging-part}
use Rattle.graphql_joins.specs.Typed.{IsTyped}
use Rattle.graphql_joins.proofs.Selections.{members-deep, typed-deep}
use Rattle.graphql_joins.specs.RequestLaws.{IsSetOf, of_operation, of_fragment, of_field, of_inline}
use Rattle.graphql_joins.proofs.TypedSelections.{Fine, fine-right, write-typed}

in-flat : {A B : Type 0} (f : A → List B) (xs : List A) (x : A) (y : B) → Contains xs x → Contains (f x) y
    → Contains (flat_map f xs) y
in-flat f [] x y i j = nothing-in x i
in-flat f (z ∷ zs) x y i j = elim (Contains-append_cases (z ∷ []) zs x i) [
  | inl k ↦ Contains-append_left (f z) (flat_map f zs) y (subst (λ w. Contains (f w) y) (sym (only-one z x k)) j)
  | inr k ↦ Contains-append_right (f z) (flat_map f zs) y (in-flat f zs x y k j)
]

is-some : {A : Type 0} (o : Option A) (x : A) → o ≡ Some x → IsSome o
is-some o x e = subst IsSome (sym e) refl

-- ---- a field and an inline fragment in a set that is written out

module _ {S C : Type 0} (types : List (MetaType S C)) (fragments : List (Fragment S)) where
  abbrev out : List (Selection S) → Tree S
  out = written fragments

  cons-members : (scope : Scope S C) (y : Selection S) (ys : List (Selection S))
      → members types scope (out (y ∷ ys)) ≡ members types scope (deep fragments y none) ++ members types scope (out ys)
  cons-members scope y ys =
      ap (members types scope) (written-cons fragments y ys) ∙ members-deep types fragments y scope (out ys)

  rest-typed : (parent : MetaType S C) (y : Selection S) (ys : List (Selection S))
      → IsTyped types (Some parent) (out (y ∷ ys)) → IsTyped types (Some parent) (out ys)
  rest-typed parent y ys t =
      (typed-deep types fragments y parent (out ys) (out ys)
      (subst (IsTyped types (Some parent)) (written-cons fragments y ys) t)).0

  abbrev field_member : MetaType S C → Placed (Field S) → Member S C
  field_member parent x = record { parent = parent; head = head_of x; below = out (listed x.item.selection_set) }

  field-member : (parent : MetaType S C) (xs : List (Selection S)) (x : Placed (Field S))
      → Contains xs (selection.Field x) → Contains (members types (Some parent) (out xs)) (field_member parent x)
  field-member parent [] x i = nothing-in (selection.Field x) i
  field-member parent (y ∷ ys) x i =
      let first = members types (Some parent) (deep fragments y none) in
      let rest = members types (Some parent) (out ys) in
      subst (λ (ms : List (Member S C)). Contains ms (field_member parent x)) (sym (cons-members (Some parent) y ys))
      (elim (Contains-append_cases (y ∷ []) ys (selection.Field x) i) [
        | inl j ↦ Contains-append_left first rest (field_member parent x)
            (subst (λ (ms : List (Member S C)). Contains ms (field_member parent x))
            (sym (ap (λ (z : Selection S). members types (Some parent) (deep fragments z none))
            (only-one y (selection.Field x) j) ∙ ap (members types (Some parent)) (deep-Field fragments x none)))
            (0, omega arith, refl))
        | inr j ↦ Contains-append_right first rest (field_member parent x) (field-member parent ys x j)
      ])

  field-typed : (parent : MetaType S C) (xs : List (Selection S)) (x : Placed (Field S))
      → Contains xs (selection.Field x) → IsTyped types (Some parent) (out xs)
      → IsTyped types (scope_of types parent x.item.name.item) (out (listed x.item.selection_set))
  field-typed parent [] x i t = nothing-in (selection.Field x) i
  field-typed parent (y ∷ ys) x i t = elim (Contains-append_cases (y ∷ []) ys (selection.Field x) i) [
    | inl j ↦
        (subst (IsTyped types (Some parent)) (written-cons fragments y ys
        ∙ ap (λ z. deep fragments z (out ys)) (only-one y (selection.Field x) j) ∙ deep-Field fragments x (out ys)) t).1
    | inr j ↦ field-typed parent ys x j (rest-typed parent y ys t)
  ]

  inline-members : (parent : MetaType S C) (xs : List (Selection S)) (x : Placed (InlineFragment S))
      → Contains xs (selection.InlineFragment x) → (m : Member S C)
      → Contains (members types (inside types (Some parent) (condition_of x.item)) (out x.item.selection_set)) m
      → Contains (members types (Some parent) (out xs)) m
  inline-members parent [] x i m k = nothing-in (selection.InlineFragment x) i
  inline-members parent (y ∷ ys) x i m k =
      let first = members types (Some parent) (deep fragments y none) in
      let rest = members types (Some parent) (out ys) in
      let own = members types (inside types (Some parent) (condition_of x.item)) (out x.item.selection_set) in
      subst (λ (ms : List (Member S C)). Contains ms m) (sym (cons-members (Some parent) y ys))
      (elim (Contains-append_cases (y ∷ []) ys (selection.InlineFragment x) i) [
        | inl j ↦ Contains-append_left first rest m
            (subst (λ (ms : List (Member S C)). Contains ms m)
            (sym (ap (λ (z : Selection S). members types (Some parent) (deep fragments z none))
            (only-one y (selection.InlineFragment x) j)
            ∙ ap (members types (Some parent)) (deep-Inline fragments x none) ∙ append-nil own))
            k)
        | inr j ↦ Contains-append_right first rest m (inline-members parent ys x j m k)
      ])

  inline-typed : (parent : MetaType S C) (xs : List (Selection S)) (x : Placed (InlineFragment S))
      → Contains xs (selection.InlineFragment x) → IsTyped types (Some parent) (out xs)
      → IsTyped types (inside types (Some parent) (condition_of x.item)) (out x.item.selection_set)
  inline-typed parent [] x i t = nothing-in (selection.InlineFragment x) i
  inline-typed parent (y ∷ ys) x i t = elim (Contains-append_cases (y ∷ []) ys (selection.InlineFragment x) i) [
    | inl j ↦
        (subst (IsTyped types (Some parent)) (written-cons fragments y ys
        ∙ ap (λ z. deep fragments z (out ys)) (only-one y (selection.InlineFragment x) j)
        ∙ deep-Inline fragments x (out ys)) t).0
    | inr j ↦ inline-typed parent ys x j (rest-typed parent y ys t)
  ]

  -- ---- a type that is found is found by its own name

  abbrev IsNamed : Scope S C → Type 0
  IsNamed scope = IfSome scope (λ m. type_named types (own_name m) ≡ Some m)

  named-named : (name : Bytes) → IsNamed (type_named types name)
  named-named name = cases (type_named types name) refl
    where
      cases : (o : Option (MetaType S C)) → type_named types name ≡ o → IsNamed o
      cases None e = tt
      cases (Some m) e =
          ap (type_named types) (same_bytes (own_name m) name (found_is_in own_name types name m e).0) ∙ e

  named-by : (o : Option Bytes) → IsNamed (option_and_then (type_named types) o)
  named-by None = tt
  named-by (Some name) = named-named name

  field-named : (parent : MetaType S C) (name : Bytes) → IsNamed (scope_of types parent name)
  field-named parent name = cases (declared_type parent name)
    where
      cases : (t : Option TypeOf) → IsNamed (option_and_then (λ t. type_named types t.name) t)
      cases None = tt
      cases (Some t) = named-named t.name

  inside-named : (parent : MetaType S C) (on : Option Bytes) → IsNamed (Some parent)
      → IsNamed (inside types (Some parent) on)
  inside-named parent None h = h
  inside-named parent (Some on) h = named-named on

-- ---- the sets of a document

module _ {S C : Type 0} (eq : S → S → Bool) (schema : Declarations S C) (closed : FieldTypesAreKnown schema)
    (document : List (Definition S))
    (well : IsWellFormed (record { schema = schema; document = document }))
    (merge : FieldsMerge eq (record { schema = schema; document = document })) where
  -- the type is one of the schema's, the set is typed, and it merges
  abbrev pub Good : MetaType S C → List (Selection S) → Type 0
  Good m set =
      (type_named schema.types (own_name m) ≡ Some m)
      × IsTyped schema.types (Some m) (written (fragments_listed document) set)
      × Merging eq schema.types (members schema.types (Some m) (written (fragments_listed document) set))

  good-at : (scope : Scope S C) (m : MetaType S C) (set : List (Selection S)) → scope ≡ Some m
      → IsNamed schema.types (fragments_listed document) scope
      → IsTyped schema.types scope (written (fragments_listed document) set)
      → Merging eq schema.types (members schema.types scope (written (fragments_listed document) set)) → Good m set
  good-at scope m set e named typed merging = (
    subst (IsNamed schema.types (fragments_listed document)) e named,
    subst (λ (s : Scope S C). IsTyped schema.types s (written (fragments_listed document) set)) e typed,
    subst (λ (s : Scope S C). Merging eq schema.types (members schema.types s
        (written (fragments_listed document) set))) e merging,
  )

  fragment-there : (ds : List (Definition S)) (p : Placed (Fragment S)) → Contains (fragments_of ds) p
      → Contains ds (definition.Fragment p)
  fragment-there [] p i = nothing-in p i
  fragment-there (definition.Operation o ∷ ds) p i =
      Contains-append_right (definition.Operation o ∷ []) ds (definition.Fragment p) (fragment-there ds p i)
  fragment-there (definition.Fragment g ∷ ds) p i = elim (Contains-append_cases (g ∷ []) (fragments_of ds) p i) [
    | inl j ↦ (0, omega arith, ap definition.Fragment (only-one g p j))
    | inr j ↦ Contains-append_right (definition.Fragment g ∷ []) ds (definition.Fragment p) (fragment-there ds p j)
  ]

  whole-fine : Fine schema closed (occurrences schema document)
  whole-fine = (
    record {
      fields = λ f i. (let d = well.fields f i in is-some f.declared d.0 d.1);
      conditions = λ n i. (let d = well.conditions n i in is-some (known schema n.item) d.0 d.1);
    },
    well.argument_names,
  )

  definition-fine : (x : Definition S) → Contains document x → Fine schema closed (definition_parts schema x)
  unfolding occurrences
  definition-fine x i = (
    record {
      fields = λ f j. whole-fine.0.fields f (in-flat (definition_parts schema) document x (AField f) i j);
      conditions = λ n j. whole-fine.0.conditions n (in-flat (definition_parts schema) document x (Condition n) i j);
    },
    λ g j. whole-fine.1 g (in-flat (definition_parts schema) document x (Given g) i j),
  )

  fragment-fine : (name : Bytes) (f : Fragment S) → fragment_meant (fragments_listed document) name ≡ Some f
      → IsSome (known schema f.type_condition.item)
      × Fine schema closed (set_parts schema (known schema f.type_condition.item) f.selection_set)
  fragment-fine name f e =
      let p = meant schema closed document whole-fine.0 name f e in
      let g = p.0.item in
      let set = set_parts schema (known schema g.type_condition.item) g.selection_set in
      let directives = directives_parts schema location.FragmentDefinition g.directives in
      let fine : Fine schema closed (Condition g.type_condition ∷ (directives ++ set)) =
      definition-fine (definition.Fragment p.0) (fragment-there document p.0 p.1) in
      subst (λ (h : Fragment S). IsSome (known schema h.type_condition.item)
      × Fine schema closed (set_parts schema (known schema h.type_condition.item) h.selection_set)) p.2 (
        fine.0.conditions g.type_condition (0, omega arith, refl),
        fine-right schema closed (Condition g.type_condition ∷ directives) set fine,
      )

  -- the set of a definition is one of the sets that merge
  definition-merges : (x : Definition S) → Contains document x
      → Merging eq schema.types (members_of schema.types (set_of schema (fragments_listed document) x))
  definition-merges x i =
      let set = set_of schema (fragments_listed document) x in
      all-of (λ (s : Set S C). Merging eq schema.types (members_of schema.types s))
      (document_sets schema document) merge set
      (in-flat (sets_of schema.types) (definition_sets schema document) set set
      (contains-map (set_of schema (fragments_listed document)) document x i) (0, omega arith, refl))

  root-named : (type : OperationType) → IsNamed schema.types (fragments_listed document) (root_of schema type)
  root-named operation.Query = named-named schema.types (fragments_listed document) schema.roots.query
  root-named operation.Mutation = named-by schema.types (fragments_listed document) schema.roots.mutation
  root-named operation.Subscription = named-by schema.types (fragments_listed document) schema.roots.subscription

  operation-good : (o : Placed (Operation S)) → Contains document (definition.Operation o) → (m : MetaType S C)
      → root_of schema o.item.operation_type ≡ Some m → Good m o.item.selection_set
  unfolding written
  operation-good o i m e =
      let root = root_of schema o.item.operation_type in
      let set = set_parts schema root o.item.selection_set in
      let before =
      flat_map (variable_parts schema) (variables_in o.item.variable_definitions) ++ directives_parts schema
      (location_of o.item.operation_type) o.item.directives in
      good-at root m o.item.selection_set e (root-named o.item.operation_type)
      (write-typed schema closed (fragments_listed document) fragment-fine
      (suc (length (fragments_listed document))) root m e
      (root-among schema o.item.operation_type m e) o.item.selection_set
      (fine-right schema closed before set (definition-fine (definition.Operation o) i)))
      (definition-merges (definition.Operation o) i)

  fragment-good : (f : Placed (Fragment S)) → Contains document (definition.Fragment f) → (m : MetaType S C)
      → known schema f.item.type_condition.item ≡ Some m → Good m f.item.selection_set
  unfolding written
  fragment-good f i m e =
      let type = known schema f.item.type_condition.item in
      let set = set_parts schema type f.item.selection_set in
      let before =
      Condition f.item.type_condition ∷ directives_parts schema location.FragmentDefinition f.item.directives in
      good-at type m f.item.selection_set e
      (named-named schema.types (fragments_listed document) f.item.type_condition.item)
      (write-typed schema closed (fragments_listed document) fragment-fine
      (suc (length (fragments_listed document))) type m e
      (among-types schema f.item.type_condition.item m e) f.item.selection_set
      (fine-right schema closed before set (definition-fine (definition.Fragment f) i)))
      (definition-merges (definition.Fragment f) i)

  field-good : (parent : MetaType S C) (set inner : List (Selection S)) (x : Placed (Field S)) → Good parent set
      → Contains set (selection.Field x) → x.item.selection_set ≡ Some inner
      → (m : MetaType S C) → scope_of schema.types parent x.item.name.item ≡ Some m → Good m inner
  field-good parent set inner x good i is m e =
      let fs = fragments_listed document in
      let scope = scope_of schema.types parent x.item.name.item in
      let below : List (Selection S) → Type 0 =
      λ ys. IsTyped schema.types scope (written fs ys)
      × Merging eq schema.types (members schema.types scope (written fs ys)) in
      let own : below inner = subst (λ (o : Option (List (Selection S))). below (listed o)) is (
        field-typed schema.types fs parent set x i good.1,
        merging-below eq schema.types (members schema.types (Some parent) (written fs set))
            (field_member schema.types fs parent x) (field-member schema.types fs parent set x i) good.2,
      ) in
      good-at scope m inner e (field-named schema.types fs parent x.item.name.item) own.0 own.1

  inline-good : (parent : MetaType S C) (set : List (Selection S)) (x : Placed (InlineFragment S)) → Good parent set
      → Contains set (selection.InlineFragment x)
      → (m : MetaType S C) → inside schema.types (Some parent) (condition_of x.item) ≡ Some m
      → Good m x.item.selection_set
  inline-good parent set x good i m e =
      let fs = fragments_listed document in
      let scope = inside schema.types (Some parent) (condition_of x.item) in
      good-at scope m x.item.selection_set e (inside-named schema.types fs parent (condition_of x.item) good.0)
      (inline-typed schema.types fs parent set x i good.1)
      (merging-part eq schema.types (members schema.types (Some parent) (written fs set))
      (members schema.types scope (written fs x.item.selection_set))
      (inline-members schema.types fs parent set x i) good.2)

  -- so is each selection set of the document that selects from a known type
  pub sets-good : (scope : Scope S C) (set : List (Selection S)) → IsSetOf schema document scope set
      → (m : MetaType S C) → scope ≡ Some m → Good m set
  sets-good _ _ (of_operation o i) m e = operation-good o i m e
  sets-good _ _ (of_fragment f i) m e = fragment-good f i m e
  sets-good _ _ (of_field parent set inner x h i is) m e =
      field-good parent set inner x (sets-good (Some parent) set h parent refl) i is m e
  sets-good _ _ (of_inline parent set x h i) m e =
      inline-good parent set x (sets-good (Some parent) set h parent refl) i m e
