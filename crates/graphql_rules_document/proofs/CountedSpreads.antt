-- Where fields are declared and conditions known, each spread that is written counts.
use Rattle.std.proofs.Common.{◌≡◌, refl, sym, ◌∙◌, ap, subst, arith, List, [], ◌∷◌, ◌++◌, map, get_or, Option, Some, None, inl, inr}
use Rattle.std.specs.Option.{IfSome, IsSome, is_some, option_and_then, option_map, option_to_list, unwrap_or}
use Rattle.std.specs.List.{All, Contains, flat_map}
use Rattle.std.proofs.lemmas.Bool.{false≢true}
use Rattle.std.proofs.lemmas.List.Elements.{Contains-append_left, Contains-append_right, Contains-append_cases}
use Rattle.graphql_names.specs.Names.{Bytes}
use Rattle.graphql_names.proofs.NameMaps.{found_is_in}
use Rattle.graphql_values.specs.InputValues.{Placed}
use Rattle.graphql_tree.specs.Documents.{arguments_in, variables_in}
use Rattle.graphql_tree.specs.declared.document.Fragment.{Fragment}
use Rattle.graphql_tree.specs.declared.document.Operation.{Operation}
use Rattle.graphql_tree.specs.declared.document.OperationType.{OperationType}
use Rattle.graphql_tree.specs.declared.document.OperationType.TheVariants as operation
use Rattle.graphql_tree.specs.declared.selection.Field.{Field}
use Rattle.graphql_tree.specs.declared.selection.FragmentSpread.{FragmentSpread}
use Rattle.graphql_tree.specs.declared.selection.InlineFragment.{InlineFragment}
use Rattle.graphql_tree.specs.declared.selection.Selection.{Selection}
use Rattle.graphql_tree.specs.declared.selection.Selection.TheVariants as selection
use Rattle.graphql_tree.proofs.SelectionInduction.{selection_ind}
use Rattle.graphql_schema.specs.declared.directive_location.DirectiveLocation.TheVariants as location
use Rattle.graphql_schema.specs.declared.meta.field.Field as declared
use Rattle.graphql_schema.specs.declared.meta.MetaType.{MetaType}
use Rattle.graphql_schema.specs.Declarations.{Declarations}
use Rattle.graphql_schema.specs.Lookups.{own_name}
use Rattle.graphql_occurrences.specs.DeclaredLookups.{field_arguments, field_in, field_type, known, referred, root_of}
use Rattle.graphql_occurrences.specs.Lookups.{location_of}
use Rattle.graphql_occurrences.specs.Occurrences.{directives_parts, fragment_parts, given_parts, operation_parts, selection_parts, set_parts, parts_under, type_inside, variable_parts}
use Rattle.graphql_occurrences.specs.Parts.{Part, AField, ASpread, AnInline, Condition}
use Rattle.graphql_occurrences.proofs.OccurrenceEquations.{parts_field, parts_spread, parts_inline}
use Rattle.graphql_written_out.specs.Written.{listed}
use Rattle.graphql_rules_document.specs.SpreadNames.{spread_names, names_in}
use Rattle.graphql_rules_document.specs.Counted.{IsSpread, AreKnown, FieldTypesAreKnown}
use Rattle.graphql_rules_document.proofs.ListItems.{nothing-in, only-one, all-first, all-after}
use Rattle.graphql_rules_document.proofs.WrittenLevels.{names-field, names-spread, names-inline}

pub value-of : {A : Type 0} (o : Option A) → IsSome o → (a : A) × (o ≡ Some a)
value-of (Some a) h = (a, refl)
value-of None h = absurd (false≢true h)

module _ {S C : Type 0} (schema : Declarations S C) where
  Parts : Type 0
  Parts = List (Part S C)

  pub known-left : (ps qs : List (Part S C)) → AreKnown schema (ps ++ qs) → AreKnown schema ps
  known-left ps qs k = record {
    fields = λ f i. k.fields f (Contains-append_left ps qs (AField f) i);
    conditions = λ n i. k.conditions n (Contains-append_left ps qs (Condition n) i);
  }

  pub known-right : (ps qs : List (Part S C)) → AreKnown schema (ps ++ qs) → AreKnown schema qs
  known-right ps qs k = record {
    fields = λ f i. k.fields f (Contains-append_right ps qs (AField f) i);
    conditions = λ n i. k.conditions n (Contains-append_right ps qs (Condition n) i);
  }

  pub spread-left : (ps qs : List (Part S C)) (name : Bytes) → IsSpread ps name → IsSpread (ps ++ qs) name
  spread-left ps qs name s = (s.0, Contains-append_left ps qs (ASpread s.0) s.1, s.2)

  pub spread-right : (ps qs : List (Part S C)) (name : Bytes) → IsSpread qs name → IsSpread (ps ++ qs) name
  spread-right ps qs name s = (s.0, Contains-append_right ps qs (ASpread s.0) s.1, s.2)

  -- a type that is known is one of the types
  pub among-types : (name : Bytes) (m : MetaType S C) → known schema name ≡ Some m → Contains schema.types m
  among-types name m e = (found_is_in own_name schema.types name m e).1

  named-among : (name : Option Bytes) (m : MetaType S C) → option_and_then (known schema) name ≡ Some m
      → Contains schema.types m
  named-among (Some name) m e = among-types name m e
  named-among None m e = cc

  -- the root of an operation is one of the types
  pub root-among : (type : OperationType) (m : MetaType S C) → root_of schema type ≡ Some m → Contains schema.types m
  root-among operation.Query m e = among-types schema.roots.query m e
  root-among operation.Mutation m e = named-among schema.roots.mutation m e
  root-among operation.Subscription m e = named-among schema.roots.subscription m e

  module _ (closed : FieldTypesAreKnown schema) where
    abbrev Counted : Selection S → Type 0
    Counted x = (parent : MetaType S C) → Contains schema.types parent → AreKnown schema (selection_parts schema x parent) → (name : Bytes) → Contains (spread_names x) name
        → IsSpread (selection_parts schema x parent) name

    set-counted : (xs : List (Selection S)) → All Counted xs → (parent : MetaType S C) → Contains schema.types parent → AreKnown schema (set_parts schema (Some parent) xs) → (name : Bytes)
        → Contains (names_in xs) name → IsSpread (set_parts schema (Some parent) xs) name
    set-counted [] each parent inside k name i = nothing-in name i
    set-counted (x ∷ xs) each parent inside k name i =
        let here = selection_parts schema x parent in
        let rest = set_parts schema (Some parent) xs in
        elim (Contains-append_cases (spread_names x) (names_in xs) name i) [
          | inl j ↦ spread-left here rest name (all-first Counted x xs each parent inside (known-left here rest k) name j)
          | inr j ↦ spread-right here rest name (set-counted xs (all-after Counted x xs each) parent inside (known-right here rest k) name j)
        ]

    -- a set under a type that is known by a reference
    pub under-known : (o : Option (MetaType S C)) (m : MetaType S C) → o ≡ Some m → Contains schema.types m → (xs : List (Selection S)) → All Counted xs → AreKnown schema (set_parts schema o xs)
        → (name : Bytes) → Contains (names_in xs) name → IsSpread (set_parts schema o xs) name
    under-known o m e inside xs each k name i =
        subst (λ o. IsSpread (set_parts schema o xs) name) (sym e) (set-counted xs each m inside (subst (λ o. AreKnown schema (set_parts schema o xs)) e k) name i)

    set-of : (set : Option (List (Selection S))) → unwrap_or (option_map (map (selection_parts schema)) set) [] ≡ map (selection_parts schema) (listed set)
    set-of None = refl
    set-of (Some xs) = refl

    held : (set : Option (List (Selection S))) → IfSome set (All Counted) → All Counted (listed set)
    held None h = λ k d within. absurd (omega (arith, within))
    held (Some xs) h = h

    referred-is : (o : Option (declared.Field S)) (d : declared.Field S) (t : MetaType S C) → o ≡ Some d → known schema d.field_type.name ≡ Some t → referred schema (field_type o) ≡ Some t
    referred-is o d t e f = ap (λ o. referred schema (field_type o)) e ∙ f

    -- the parts of a field, but for those of its set
    front-field : Placed (Field S) → MetaType S C → List (Part S C)
    front-field x parent =
        AField (record {
          name = x.item.name.item;
          place = x.span.start;
          parent = parent;
          declared = field_in parent x.item.name.item;
          has_set = is_some (option_map (map (selection_parts schema)) x.item.selection_set);
        })
        ∷ (given_parts schema x.span.start (field_arguments (field_in parent x.item.name.item)) (arguments_in x.item.arguments) ++ directives_parts schema location.Field x.item.directives)

    own-parts : Placed (Field S) → MetaType S C → List (Part S C)
    own-parts x parent = set_parts schema (referred schema (field_type (field_in parent x.item.name.item))) (listed x.item.selection_set)

    field-split : (x : Placed (Field S)) (parent : MetaType S C) → selection_parts schema (selection.Field x) parent ≡ front-field x parent ++ own-parts x parent
    unfolding front-field own-parts
    field-split x parent = parts_field schema x parent ∙ ap (λ set. front-field x parent ++ parts_under schema (referred schema (field_type (field_in parent x.item.name.item))) set) (set-of x.item.selection_set)

    declared-in : (x : Placed (Field S)) (parent : MetaType S C) → AreKnown schema (front-field x parent) → IsSome (field_in parent x.item.name.item)
    unfolding front-field
    declared-in x parent k = k.fields _ (0, omega arith, refl)

    counted-Field : (x : Placed (Field S)) → IfSome x.item.selection_set (All Counted) → Counted (selection.Field x)
    unfolding own-parts
    counted-Field x h parent inside k name i =
        let parts = subst (AreKnown schema) (field-split x parent) k in
        let d = value-of (field_in parent x.item.name.item) (declared-in x parent (known-left (front-field x parent) (own-parts x parent) parts)) in
        let t = value-of (known schema d.0.field_type.name) (closed parent x.item.name.item d.0 inside d.1) in
        let same = referred-is (field_in parent x.item.name.item) d.0 t.0 d.1 t.1 in
        let below = under-known (referred schema (field_type (field_in parent x.item.name.item))) t.0 same (among-types d.0.field_type.name t.0 t.1) (listed x.item.selection_set) (held x.item.selection_set h)
        (known-right (front-field x parent) (own-parts x parent) parts) name (subst (λ ns. Contains ns name) (names-field x) i) in
        subst (λ ps. IsSpread ps name) (sym (field-split x parent)) (spread-right (front-field x parent) (own-parts x parent) name below)

    counted-Spread : (x : Placed (FragmentSpread S)) → Counted (selection.FragmentSpread x)
    counted-Spread x parent inside k name i =
        let here = subst (λ ns. Contains ns name) (names-spread x) i in
        subst (λ ps. IsSpread ps name) (sym (parts_spread schema x parent))
        (record { name = x.item.name; place = x.span.start; parent = parent }, (0, omega arith, refl), only-one x.item.name.item name here)

    condition-among : (c : Option (Placed Bytes)) (n : Placed Bytes) → c ≡ Some n → (first : Part S C) → Contains (first ∷ map Condition (option_to_list c)) (Condition n)
    condition-among (Some m) n e first = let same : m ≡ n = cc in (1, omega arith, ap Condition same)
    condition-among None n e first = cc

    -- the type inside an inline fragment
    inner : (parent : MetaType S C) → Contains schema.types parent → (c : Option (Placed Bytes)) → ((n : Placed Bytes) → c ≡ Some n → IsSome (known schema n.item))
        → (m : MetaType S C) × (type_inside schema parent c ≡ Some m) × Contains schema.types m
    inner parent inside None h = (parent, refl, inside)
    inner parent inside (Some n) h = let m = value-of (known schema n.item) (h n refl) in (m.0, m.1, among-types n.item m.0 m.1)

    -- the parts of an inline fragment, but for those of its set
    conditions-of : Placed (InlineFragment S) → MetaType S C → List (Part S C)
    conditions-of x parent = AnInline (record { condition = x.item.type_condition; place = x.span.start; parent = parent }) ∷ map Condition (option_to_list x.item.type_condition)

    front-inline : Placed (InlineFragment S) → MetaType S C → List (Part S C)
    front-inline x parent = conditions-of x parent ++ directives_parts schema location.InlineFragment x.item.directives

    inside-parts : Placed (InlineFragment S) → MetaType S C → List (Part S C)
    inside-parts x parent = set_parts schema (type_inside schema parent x.item.type_condition) x.item.selection_set

    inline-split : (x : Placed (InlineFragment S)) (parent : MetaType S C) → selection_parts schema (selection.InlineFragment x) parent ≡ front-inline x parent ++ inside-parts x parent
    unfolding front-inline conditions-of inside-parts
    inline-split x parent = parts_inline schema x parent

    condition-known : (x : Placed (InlineFragment S)) (parent : MetaType S C) → AreKnown schema (front-inline x parent) → (n : Placed Bytes) → x.item.type_condition ≡ Some n → IsSome (known schema n.item)
    unfolding front-inline conditions-of
    condition-known x parent k n e =
        k.conditions n (Contains-append_left (conditions-of x parent) (directives_parts schema location.InlineFragment x.item.directives) (Condition n) (condition-among x.item.type_condition n e _))

    counted-Inline : (x : Placed (InlineFragment S)) → All Counted x.item.selection_set → Counted (selection.InlineFragment x)
    unfolding inside-parts
    counted-Inline x h parent inside k name i =
        let parts = subst (AreKnown schema) (inline-split x parent) k in
        let m = inner parent inside x.item.type_condition (condition-known x parent (known-left (front-inline x parent) (inside-parts x parent) parts)) in
        let below = under-known (type_inside schema parent x.item.type_condition) m.0 m.1 m.2 x.item.selection_set h (known-right (front-inline x parent) (inside-parts x parent) parts) name
        (subst (λ ns. Contains ns name) (names-inline x) i) in
        subst (λ ps. IsSpread ps name) (sym (inline-split x parent)) (spread-right (front-inline x parent) (inside-parts x parent) name below)

    pub selection-counted : (x : Selection S) → Counted x
    selection-counted = selection_ind Counted counted-Field counted-Spread counted-Inline

    front-fragment : Fragment S → List (Part S C)
    front-fragment f = Condition f.type_condition ∷ directives_parts schema location.FragmentDefinition f.directives

    -- each name that a fragment spreads, at every depth, is spread by its parts
    pub fragment-counted : (f : Fragment S) → AreKnown schema (fragment_parts schema f) → (name : Bytes) → Contains (names_in f.selection_set) name → IsSpread (fragment_parts schema f) name
    unfolding front-fragment
    fragment-counted f k name i =
        let below = set_parts schema (known schema f.type_condition.item) f.selection_set in
        let m = value-of (known schema f.type_condition.item) (k.conditions f.type_condition (0, omega arith, refl)) in
        spread-right (front-fragment f) below name
        (under-known (known schema f.type_condition.item) m.0 m.1 (among-types f.type_condition.item m.0 m.1) f.selection_set (λ j d within. selection-counted (get_or f.selection_set j d))
        (known-right (front-fragment f) below k) name i)

    front-operation : Operation S → List (Part S C)
    front-operation o =
        flat_map (variable_parts schema) (variables_in o.variable_definitions)
        ++ directives_parts schema (location_of o.operation_type) o.directives

    -- each name that an operation spreads, at every depth, is spread by its parts
    pub operation-counted : (o : Operation S) → IsSome (root_of schema o.operation_type)
        → AreKnown schema (operation_parts schema o)
        → (name : Bytes) → Contains (names_in o.selection_set) name → IsSpread (operation_parts schema o) name
    unfolding front-operation
    operation-counted o has_root k name i =
        let root = root_of schema o.operation_type in
        let below = set_parts schema root o.selection_set in
        let m = value-of root has_root in
        spread-right (front-operation o) below name
        (under-known root m.0 m.1 (root-among o.operation_type m.0 m.1) o.selection_set
        (λ j d within. selection-counted (get_or o.selection_set j d))
        (known-right (front-operation o) below k) name i)
