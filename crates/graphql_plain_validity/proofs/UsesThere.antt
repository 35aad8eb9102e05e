-- Each variable that a plain set uses is used by its parts, where the types around all fields are known.
use Rattle.std.proofs.Common.{◌≡◌, refl, sym, ◌∙◌, ap, subst, arith, List, [], ◌∷◌, ◌++◌, map, Option, Some, None, inl, inr}
use Rattle.std.specs.Prelude.{unwrap_or}
use Rattle.std.specs.List.{Contains, flat_map}
use Rattle.std.specs.Option.{is_some, option_map, option_to_list}
use Rattle.std.proofs.lemmas.List.Elements.{Contains-append_cases, Contains-append_left, Contains-append_right}
use Rattle.graphql_names.specs.Names.{Bytes}
use Rattle.graphql_text.specs.Position.{origin}
use Rattle.graphql_text.specs.declared.position.SourcePosition.{SourcePosition}
use Rattle.graphql_values.specs.InputValues.{Placed, Pair, unplaced}
use Rattle.graphql_values.specs.Variables.{names_of_variables as variables_of, variables_layer}
use Rattle.graphql_values.specs.declared.input_value.InputValue.{InputValue}
use Rattle.graphql_values.specs.declared.input_value.InputValue.TheVariants as value
use Rattle.graphql_values.proofs.InputValueEquations.{fold_null, fold_scalar, fold_enum, fold_variable}
use Rattle.graphql_values.proofs.InputValueInduction.{value_ind, HoldsOfItems, HoldsOfPairs}
use Rattle.graphql_values.proofs.VariableLemmas.{variables_in_list, variables_in_object}
use Rattle.graphql_tree.specs.Arguments.{Argument}
use Rattle.graphql_tree.specs.Documents.{arguments_in}
use Rattle.graphql_tree.specs.declared.selection.Selection.TheVariants as selection
use Rattle.graphql_schema.specs.declared.directive_location.DirectiveLocation.TheVariants as location
use Rattle.graphql_schema.specs.declared.meta.argument.Argument.{Argument as Declared}
use Rattle.graphql_schema.specs.declared.meta.field.Field as declared
use Rattle.graphql_schema.specs.declared.meta.MetaType.{MetaType}
use Rattle.graphql_schema.specs.Declarations.{Declarations}
use Rattle.graphql_occurrences.specs.Lookups.{argument_place, field_arguments, field_in, field_place, field_type, item_place, known, referred}
use Rattle.graphql_occurrences.specs.Occurrences.{directives_parts, given_parts, placed_parts, selection_parts, set_parts, type_inside, parts_under, value_parts}
use Rattle.graphql_occurrences.specs.Parts.{FieldPart, InputPlace, Part, Use, AField, AnInline, Condition, Given, ObjectOf, VariableUsed}
use Rattle.graphql_occurrences.proofs.OccurrenceEquations.{parts_field, parts_inline, parts_variable, parts_list, parts_object}
use Rattle.graphql_rules_document.specs.Counted.{AreKnown, FieldTypesAreKnown}
use Rattle.graphql_rules_document.proofs.CountedSpreads.{among-types, known-left, known-right, value-of}
use Rattle.graphql_rules_document.proofs.ListItems.{all-of, nothing-in, only-one}
use Rattle.graphql_written_out.specs.Trees.{Directives, Head, Tree, none, field, inline, is_empty}
use Rattle.graphql_plain_tree.specs.PlainDocuments.{arguments_as, directives_as, list_unless, selections_of}
use Rattle.graphql_plain_tree.specs.PlainOperations.{variables_given, variables_used}
use Rattle.graphql_plain_validity.proofs.EachItem.{flat-from, flat-in}
use Rattle.graphql_plain_validity.proofs.PlainSetParts.{arguments-back, field_as, inline_as}

module _ {S C : Type 0} where
  -- a use of the name is among the parts
  abbrev pub HasUse : List (Part S C) → Bytes → Type 0
  HasUse parts n = (u : Use) × Contains parts (VariableUsed u) × (u.name ≡ n)

  pub use-left : (ps qs : List (Part S C)) (n : Bytes) → HasUse ps n → HasUse (ps ++ qs) n
  use-left ps qs n u = (u.0, Contains-append_left ps qs (VariableUsed u.0) u.1, u.2)

  pub use-right : (ps qs : List (Part S C)) (n : Bytes) → HasUse qs n → HasUse (ps ++ qs) n
  use-right ps qs n u = (u.0, Contains-append_right ps qs (VariableUsed u.0) u.1, u.2)

  use-of : {A : Type 0} (f : A → List (Part S C)) (ts : List A) (t : A) (n : Bytes) → Contains ts t
      → HasUse (f t) n → HasUse (flat_map f ts) n
  use-of f ts t n i u = (u.0, flat-in f ts t (VariableUsed u.0) i u.1, u.2)

module _ {S C : Type 0} (schema : Declarations S C) where
  -- ---- values

  abbrev Uses : InputValue S → Type 0
  Uses v =
      (n : Bytes) → Contains (variables_of v) n → (start : SourcePosition)
      (here : Option InputPlace) → HasUse (value_parts schema v start here) n

  no-use : (v : InputValue S) → variables_of v ≡ [] → Uses v
  no-use v e n i = nothing-in n (subst (λ ns. Contains ns n) e i)

  variable-uses : (m : Bytes) → Uses (value.Variable m)
  variable-uses m n i start here =
      subst (λ ps. HasUse ps n) (sym (parts_variable schema m start here)) (
        record { name = m; place = start; at = here },
        (0, omega arith, refl),
        only-one m n
            (subst (λ ns. Contains ns n) (fold_variable variables_layer m) i),
      )

  list-uses : (xs : List (Placed (InputValue S))) → HoldsOfItems Uses xs → Uses (value.List xs)
  list-uses xs each n i start here =
      let x =
      flat-from (λ (y : Placed (InputValue S)). variables_of y.item) xs n
      (subst (λ ns. Contains ns n) (variables_in_list xs) i) in
      subst (λ ps. HasUse ps n) (sym (parts_list schema xs start here))
      (use-of
      (λ (y : Placed (InputValue S)). value_parts schema y.item y.span.start
      (item_place here)) xs x.0 n x.1
      (all-of (λ (y : Placed (InputValue S)). Uses y.item) xs each x.0 x.1 n x.2 x.0.span.start
      (item_place here)))

  object-uses : (ps : List (Pair (InputValue S))) → HoldsOfPairs Uses ps → Uses (value.Object ps)
  object-uses ps each n i start here =
      let p =
      flat-from (λ (q : Pair (InputValue S)). variables_of q.1.item) ps n
      (subst (λ ns. Contains ns n) (variables_in_object ps) i) in
      let parts =
      λ (q : Pair (InputValue S)). value_parts schema q.1.item q.1.span.start
      (field_place schema here q.0.item) in
      subst (λ ps. HasUse ps n) (sym (parts_object schema ps start here))
      (use-right (ObjectOf (map (λ q. q.0) ps) ∷ []) (flat_map parts ps) n
      (use-of parts ps p.0 n p.1
      (all-of (λ (q : Pair (InputValue S)). Uses q.1.item) ps each p.0 p.1 n p.2 p.0.1.span.start
      (field_place schema here p.0.0.item))))

  value-uses : (v : InputValue S) → Uses v
  value-uses = value_ind Uses
      (no-use value.Null (fold_null variables_layer))
      (λ s. no-use (value.Scalar s) (fold_scalar variables_layer s))
      (λ m. no-use (value.Enum m) (fold_enum variables_layer m))
      variable-uses
      list-uses
      object-uses

  given-uses : (declared : Option (List (Declared S))) (xs : List (Argument S)) (n : Bytes)
      → Contains (variables_given xs) n → HasUse (given_parts schema origin declared xs) n
  given-uses declared xs n i =
      let a = flat-from (λ (b : Argument S). variables_of b.1.item) xs n i in
      let parts = λ (b : Argument S). placed_parts schema (argument_place declared b.0.item) b.1 in
      use-right (Given (record {
        place =
            origin;
        given = xs;
        declared = declared;
      }) ∷ []) (flat_map parts xs) n
      (use-of parts xs a.0 n a.1
      (value-uses a.0.1.item n a.2 a.0.1.span.start (argument_place declared a.0.0.item)))

  -- ---- sets

  set-is : (scope : Option (MetaType S C)) (below : Tree S)
      → parts_under schema scope (unwrap_or (option_map (map (selection_parts schema)) (list_unless (is_empty below) (selections_of below))) [])
      ≡ set_parts schema scope (selections_of below)
  set-is scope none = refl
  set-is scope (field head directives below rest) = refl
  set-is scope (inline on directives below rest) = refl

  module _ (closed : FieldTypesAreKnown schema) where
    abbrev parts : Option (MetaType S C) → Tree S → List (Part S C)
    parts scope t = set_parts schema scope (selections_of t)

    abbrev Used : Tree S → Type 0
    Used t =
        (parent : MetaType S C) → Contains schema.types parent → AreKnown schema
        (parts (Some parent) t) → (n : Bytes) → Contains (variables_used t) n → HasUse
        (parts (Some parent) t) n

    -- a set that is selected of a known type
    used-under : (below : Tree S) → Used below → (scope : Option (MetaType S C)) (m : MetaType S C)
        → scope ≡ Some m → Contains schema.types m → AreKnown schema (parts scope below)
        → (n : Bytes) → Contains (variables_used below) n
        → HasUse (parts scope below) n
    used-under below h scope m is there k n i =
        subst (λ s. HasUse (parts s below) n) (sym is)
        (h m there (subst (λ s. AreKnown schema (parts s below)) is k) n i)

    referred-is : (o : Option (declared.Field S)) (d : declared.Field S) (m : MetaType S C)
        → o ≡ Some d → known schema d.field_type.name ≡ Some m
        → referred schema (field_type o) ≡ Some m
    referred-is o d m e f = ap (λ z. referred schema (field_type z)) e ∙ f

    in-field : (parent : MetaType S C) (head : Head S) (ds : Directives S) (below : Tree S)
        → Contains schema.types parent → Used below → (n : Bytes)
        → AreKnown schema (selection_parts schema (selection.Field (field_as head ds below)) parent)
        → Contains (variables_given head.arguments ++ variables_used below) n
        → HasUse (selection_parts schema (selection.Field (field_as head ds below)) parent) n
    in-field parent head ds below there h n k i =
        let x = field_as head ds below in
        let o = field_in parent head.name in
        let scope = referred schema (field_type o) in
        let given =
        given_parts schema origin (field_arguments o)
        (arguments_in (arguments_as head.arguments)) in
        let directives = directives_parts schema location.Field (directives_as ds) in
        let inner =
        parts_under schema scope
        (unwrap_or
        (option_map (map (selection_parts schema))
        (list_unless (is_empty below) (selections_of below))) []) in
        let part : FieldPart S C = record {
          name = head.name;
          place = origin;
          parent = parent;
          declared = o;
          has_set =
              is_some
              (option_map (map (selection_parts schema))
              (list_unless (is_empty below) (selections_of below)));
        } in
        let front : List (Part S C) = AField part ∷ (given ++ directives) in
        let e = parts_field schema x parent in
        let whole : AreKnown schema (front ++ inner) = subst (AreKnown schema) e k in
        let d = value-of o (whole.fields part (0, omega arith, refl)) in
        let m =
        value-of (known schema d.0.field_type.name) (closed parent head.name d.0 there d.1) in
        let within : AreKnown schema (parts scope below) =
        subst (AreKnown schema) (set-is scope below) (known-right schema front inner whole) in
        subst (λ ps. HasUse ps n) (sym e)
        (elim (Contains-append_cases (variables_given head.arguments) (variables_used below) n i) [
          | inl j ↦ use-right (AField part ∷ []) ((given ++ directives) ++ inner) n
              (use-left (given ++ directives) inner n (use-left given directives n
              (given-uses (field_arguments o) (arguments_in (arguments_as head.arguments)) n
              (subst (λ xs. Contains (variables_given xs) n)
              (sym (arguments-back head.arguments)) j))))
          | inr j ↦ use-right front inner n (subst (λ ps. HasUse ps n) (sym (set-is scope below))
              (used-under below h scope m.0 (referred-is o d.0 m.0 d.1 m.1)
              (among-types schema d.0.field_type.name m.0 m.1) within n j))
        ])

    -- the type inside an inline fragment
    inner-type : (parent : MetaType S C) → Contains schema.types parent
        → (on : Option Bytes) (first : Part S C)
        → AreKnown schema (first ∷ map Condition (option_to_list (option_map unplaced on)))
        → (m : MetaType S C) × (type_inside schema parent (option_map unplaced on) ≡ Some m)
        × Contains schema.types m
    inner-type parent there None first k = (parent, refl, there)
    inner-type parent there (Some n) first k =
        let m = value-of (known schema n) (k.conditions (unplaced n) (1, omega arith, refl)) in
        (m.0, m.1, among-types schema n m.0 m.1)

    in-inline : (parent : MetaType S C) (on : Option Bytes) (ds : Directives S) (below : Tree S)
        → Contains schema.types parent → Used below → (n : Bytes)
        → AreKnown schema (selection_parts schema (selection.InlineFragment (inline_as on ds below)) parent)
        → Contains (variables_used below) n
        → HasUse (selection_parts schema (selection.InlineFragment (inline_as on ds below)) parent) n
    in-inline parent on ds below there h n k i =
        let x = inline_as on ds below in
        let first : Part S C =
        AnInline (record { condition = option_map unplaced on; place = origin; parent = parent }) in
        let conditions = map Condition (option_to_list (option_map unplaced on)) in
        let directives = directives_parts schema location.InlineFragment (directives_as ds) in
        let scope = type_inside schema parent (option_map unplaced on) in
        let e = parts_inline schema x parent in
        let whole = subst (AreKnown schema) e k in
        let front : List (Part S C) = first ∷ (conditions ++ directives) in
        let m =
        inner-type parent there on first
        (known-left schema (first ∷ conditions) directives
        (known-left schema front (parts scope below) whole)) in
        subst (λ ps. HasUse ps n) (sym e) (use-right front (parts scope below) n
        (used-under below h scope m.0 m.1 m.2
        (known-right schema front (parts scope below) whole) n i))

    pub tree-uses : (t : Tree S) → Used t
    tree-uses none parent there k n i = nothing-in n i
    tree-uses (field head ds below rest) parent there k n i =
        let x = field_as head ds below in
        let here = selection_parts schema (selection.Field x) parent in
        let after = parts (Some parent) rest in
        let given = variables_given head.arguments in
        let first =
        λ (j : Contains (given ++ variables_used below) n). use-left here after n
        (in-field parent head ds below there (tree-uses below) n
        (known-left schema here after k) j) in
        elim (Contains-append_cases given (variables_used below ++ variables_used rest) n i) [
          | inl j ↦ first (Contains-append_left given (variables_used below) n j)
          | inr j ↦ elim (Contains-append_cases (variables_used below) (variables_used rest) n j) [
            | inl l ↦ first (Contains-append_right given (variables_used below) n l)
            | inr l ↦ use-right here after n
                (tree-uses rest parent there (known-right schema here after k) n l)
          ]
        ]
    tree-uses (inline on ds below rest) parent there k n i =
        let x = inline_as on ds below in
        let here = selection_parts schema (selection.InlineFragment x) parent in
        let after = parts (Some parent) rest in
        elim (Contains-append_cases (variables_used below) (variables_used rest) n i) [
          | inl l ↦ use-left here after n
              (in-inline parent on ds below there (tree-uses below) n
              (known-left schema here after k) l)
          | inr l ↦ use-right here after n
              (tree-uses rest parent there (known-right schema here after k) n l)
        ]
