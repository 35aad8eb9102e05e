-- The parts of what has no places are its parts without their places.
use Rattle.std.proofs.Common.{◌≡◌, refl, sym, ◌∙◌, ap, Bool, List, [], ◌∷◌, ◌++◌, map, Option, Some, None, get_or}
use Rattle.std.specs.Prelude.{IfSome, unwrap_or}
use Rattle.std.specs.List.{All, flat_map}
use Rattle.std.specs.Option.{option_map, option_to_list, is_some}
use Rattle.std.proofs.lemmas.List.{map-append}
use Rattle.std.proofs.lemmas.List.Elements.{All-head, All-tail}
use Rattle.std.proofs.lemmas.List.Folds.{flat_map-map}
use Rattle.graphql_text.specs.declared.position.SourcePosition.{SourcePosition}
use Rattle.graphql_text.specs.Position.{origin}
use Rattle.graphql_names.specs.Names.{Bytes}
use Rattle.graphql_values.specs.InputValues.{Placed, Pair, unplaced, unplaced_pair, unlocated, unlocated_layer}
use Rattle.graphql_values.specs.declared.input_value.InputValue.{InputValue}
use Rattle.graphql_values.specs.declared.input_value.InputValue.TheVariants as value
use Rattle.graphql_values.proofs.InputValueEquations.{fold_null, fold_scalar, fold_enum, fold_variable, unlocated_list, unlocated_object}
use Rattle.graphql_values.proofs.InputValueInduction.{value_ind, HoldsOfItems, HoldsOfPairs}
use Rattle.graphql_tree.specs.Arguments.{Argument}
use Rattle.graphql_tree.specs.Documents.{arguments_in, variables_in}
use Rattle.graphql_tree.specs.Variables.{Variable}
use Rattle.graphql_tree.specs.Unlocated.{without_place, unlocated_name, unlocated_argument, unlocated_arguments, unlocated_directive, unlocated_directives, unlocated_variable, unlocated_variables, unlocated_selection, unlocated_spread, unlocated_operation, unlocated_fragment, unlocated_definition}
use Rattle.graphql_tree.specs.declared.directive.Arguments.{Arguments}
use Rattle.graphql_tree.specs.declared.directive.Directive.{Directive}
use Rattle.graphql_tree.specs.declared.variable.VariableDefinitions.{VariableDefinitions}
use Rattle.graphql_tree.specs.declared.selection.Field.{Field}
use Rattle.graphql_tree.specs.declared.selection.FragmentSpread.{FragmentSpread}
use Rattle.graphql_tree.specs.declared.selection.InlineFragment.{InlineFragment}
use Rattle.graphql_tree.specs.declared.selection.Selection.{Selection}
use Rattle.graphql_tree.specs.declared.selection.Selection.TheVariants as selection
use Rattle.graphql_tree.specs.declared.document.Definition.{Definition}
use Rattle.graphql_tree.specs.declared.document.Definition.TheVariants as definition
use Rattle.graphql_tree.specs.declared.document.Fragment.{Fragment}
use Rattle.graphql_tree.specs.declared.document.Operation.{Operation}
use Rattle.graphql_tree.proofs.SelectionInduction.{selection_ind, HoldsOfSet, HoldsInField, HoldsInInline}
use Rattle.graphql_tree.proofs.UnlocatedEquations.{unlocated_selection_field, unlocated_selection_spread, unlocated_selection_inline, unlocated_in_field, unlocated_in_inline}
use Rattle.graphql_schema.specs.declared.directive_location.DirectiveLocation.{DirectiveLocation}
use Rattle.graphql_schema.specs.declared.directive_location.DirectiveLocation.TheVariants as location
use Rattle.graphql_schema.specs.declared.meta.MetaType.{MetaType}
use Rattle.graphql_schema.specs.declared.meta.argument.Argument.{Argument as Declared}
use Rattle.graphql_occurrences.specs.DeclaredLookups.{Declarations}
use Rattle.graphql_occurrences.specs.DeclaredLookups.{directive_named}
use Rattle.graphql_occurrences.specs.Lookups.{argument_place, bare_place, directive_arguments, field_arguments, field_in, field_place, field_type, item_place, known, location_of, referred, root_of}
use Rattle.graphql_occurrences.specs.Laws.{OccurrencesAreUnlocated}
use Rattle.graphql_occurrences.specs.Occurrences.{variable_part, value_parts, placed_parts, given_parts, directive_parts, directives_parts, parts_under, type_inside, selection_parts, set_parts, variable_parts, operation_parts, fragment_parts, definition_parts, occurrences}
use Rattle.graphql_occurrences.specs.Parts.{Part, InputPlace, VariableDefined, Condition, AField, ASpread, AnInline, ADirective, Given, ObjectOf}
use Rattle.graphql_occurrences.specs.Unlocated.{unlocated_variable_part, unlocated_part}
use Rattle.graphql_occurrences.proofs.OccurrenceEquations.{parts_null, parts_scalar, parts_enum, parts_variable, parts_list, parts_object, parts_field, parts_spread, parts_inline}

module _ {S C : Type 0} where
  -- some parts are others without their places
  abbrev Unlocated : List (Part S C) → List (Part S C) → Type 0
  Unlocated us ps = us ≡ map unlocated_part ps

  two : (us vs ps qs : List (Part S C)) → Unlocated us ps → Unlocated vs qs → Unlocated (us ++ vs) (ps ++ qs)
  two us vs ps qs p q = (λ i. p i ++ q i) ∙ sym (map-append unlocated_part ps qs)

  three : (us vs ws ps qs rs : List (Part S C)) → Unlocated us ps → Unlocated vs qs → Unlocated ws rs
      → Unlocated ((us ++ vs) ++ ws) ((ps ++ qs) ++ rs)
  three us vs ws ps qs rs p q r = two (us ++ vs) ws (ps ++ qs) rs (two us vs ps qs p q) r

  -- the parts of several things, each of which has become another
  module _ {A : Type 0} (parts : A → List (Part S C)) (becomes : A → A) where
    all : (xs : List A) → All (λ x. Unlocated (parts (becomes x)) (parts x)) xs
        → Unlocated (flat_map parts (map becomes xs)) (flat_map parts xs)
    all [] h = refl
    all (x ∷ xs) h =
        two (parts (becomes x)) (flat_map parts (map becomes xs)) (parts x) (flat_map parts xs)
        (All-head (λ x. Unlocated (parts (becomes x)) (parts x)) x xs h)
        (all xs (All-tail (λ x. Unlocated (parts (becomes x)) (parts x)) x xs h))

    each : ((x : A) → Unlocated (parts (becomes x)) (parts x)) → (xs : List A)
        → Unlocated (flat_map parts (map becomes xs)) (flat_map parts xs)
    each h xs = all xs (λ k d within. h (get_or xs k d))

module _ {S C : Type 0} (schema : Declarations S C) where
  -- 2.9 Input Values
  abbrev ValueUnlocated : InputValue S → SourcePosition → Option InputPlace → Type 0
  ValueUnlocated v start here =
      Unlocated (value_parts schema (unlocated v) origin here) (value_parts schema v start here)

  -- a value, by what it is without its places, and by the parts of both
  value_by : (v u : InputValue S) (us ps : List (Part S C)) (start : SourcePosition) (here : Option InputPlace)
      → unlocated v ≡ u → value_parts schema u origin here ≡ us → value_parts schema v start here ≡ ps
      → Unlocated us ps → ValueUnlocated v start here
  value_by v u us ps start here is of_it of_value h =
      ap (λ w. value_parts schema w origin here) is ∙ of_it ∙ h ∙ sym (ap (map unlocated_part) of_value)

  unlocated_names : (ps : List (Pair (InputValue S)))
      → map (λ p. p.0) (map (λ (p : Pair (InputValue S)). unplaced_pair (p.0.item, unlocated p.1.item)) ps)
      ≡ map unlocated_name (map (λ p. p.0) ps)
  unlocated_names [] = refl
  unlocated_names (p ∷ ps) = ap (λ ns. unlocated_name p.0 ∷ ns) (unlocated_names ps)

  abbrev ValueIs : InputValue S → Type 0
  ValueIs v = (start : SourcePosition) (here : Option InputPlace) → ValueUnlocated v start here

  list_unlocated : (xs : List (Placed (InputValue S))) → HoldsOfItems ValueIs xs → ValueIs (value.List xs)
  list_unlocated xs h start here =
      let of_item : Placed (InputValue S) → List (Part S C) = placed_parts schema (item_place here) in
      value_by (value.List xs) _ _ _ start here
      (unlocated_list xs) (parts_list schema _ origin here) (parts_list schema xs start here)
      (all of_item (λ x. unplaced (unlocated x.item)) xs
      (λ k d within. h k d within (get_or xs k d).span.start (item_place here)))

  object_unlocated : (ps : List (Pair (InputValue S))) → HoldsOfPairs ValueIs ps → ValueIs (value.Object ps)
  object_unlocated ps h start here =
      let place : Pair (InputValue S) → Option InputPlace = λ p. field_place schema here p.0.item in
      let of_pair : Pair (InputValue S) → List (Part S C) = λ p. placed_parts schema (place p) p.1 in
      let values = all of_pair (λ p. unplaced_pair (p.0.item, unlocated p.1.item)) ps
      (λ k d within. let p = get_or ps k d in h k d within p.1.span.start (place p)) in
      value_by (value.Object ps) _ _ _ start here
      (unlocated_object ps) (parts_object schema _ origin here) (parts_object schema ps start here)
      (λ i. ObjectOf (unlocated_names ps i) ∷ values i)

  value_unlocated : (v : InputValue S) → ValueIs v
  value_unlocated = value_ind ValueIs
      (λ start here. value_by value.Null value.Null _ _ start here
      (fold_null unlocated_layer) (parts_null schema origin here) (parts_null schema start here) refl)
      (λ s start here. value_by (value.Scalar s) (value.Scalar s) _ _ start here
      (fold_scalar unlocated_layer s) (parts_scalar schema s origin here) (parts_scalar schema s start here) refl)
      (λ n start here. value_by (value.Enum n) (value.Enum n) _ _ start here
      (fold_enum unlocated_layer n) (parts_enum schema n origin here) (parts_enum schema n start here) refl)
      (λ n start here. value_by (value.Variable n) (value.Variable n) _ _ start here
      (fold_variable unlocated_layer n) (parts_variable schema n origin here) (parts_variable schema n start here) refl)
      list_unlocated object_unlocated

  placed_unlocated : (here : Option InputPlace) (v : Placed (InputValue S))
      → Unlocated (placed_parts schema here (without_place unlocated v)) (placed_parts schema here v)
  placed_unlocated here v = value_unlocated v.item v.span.start here

  -- 2.6 Arguments
  abbrev unlocated_given : Option (Placed (Arguments S)) → List (Argument S)
  unlocated_given given = arguments_in (option_map (without_place unlocated_arguments) given)

  arguments_unlocated : (given : Option (Placed (Arguments S)))
      → unlocated_given given ≡ map unlocated_argument (arguments_in given)
  arguments_unlocated None = refl
  arguments_unlocated (Some x) = refl

  given_unlocated : (place : SourcePosition) (declared : Option (List (Declared S)))
      → (given : Option (Placed (Arguments S)))
      → Unlocated (given_parts schema origin declared (unlocated_given given))
      (given_parts schema place declared (arguments_in given))
  given_unlocated place declared given =
      let of_argument : Argument S → List (Part S C) =
      λ a. placed_parts schema (argument_place declared a.0.item) a.1 in
      let values = each of_argument unlocated_argument
      (λ a. placed_unlocated (argument_place declared a.0.item) a.1) (arguments_in given) in
      let arguments = map unlocated_argument (arguments_in given) in
      ap (given_parts schema origin declared) (arguments_unlocated given)
      ∙ ap (λ ps. Given (record { place = origin; given = arguments; declared = declared }) ∷ ps) values

  -- 2.12 Directives
  directive_unlocated : (at : DirectiveLocation) (d : Placed (Directive S))
      → Unlocated (directive_parts schema at (without_place unlocated_directive d)) (directive_parts schema at d)
  directive_unlocated at d =
      let name = d.item.name.item in
      let declared = directive_named schema.directives name in
      ap (λ ps. ADirective (record { name = name; place = origin; location = at; declared = declared }) ∷ ps)
      (given_unlocated d.span.start (directive_arguments declared) d.item.arguments)

  directives_unlocated : (at : DirectiveLocation) (ds : Option (List (Placed (Directive S))))
      → Unlocated (directives_parts schema at (unlocated_directives ds)) (directives_parts schema at ds)
  directives_unlocated at None = refl
  directives_unlocated at (Some ds) =
      each (directive_parts schema at) (without_place unlocated_directive) (directive_unlocated at) ds

  -- 2.4 Selection Sets
  abbrev SelectionUnlocated : Selection S → Type 0
  SelectionUnlocated x =
      (parent : MetaType S C)
      → Unlocated (selection_parts schema (unlocated_selection x) parent) (selection_parts schema x parent)

  set_by : (parent : Option (MetaType S C)) (xs : List (Selection S)) → HoldsOfSet SelectionUnlocated xs
      → Unlocated (set_parts schema parent (map unlocated_selection xs)) (set_parts schema parent xs)
  set_by None xs h = refl
  set_by (Some parent) xs h =
      let of_selection : Selection S → List (Part S C) = λ x. selection_parts schema x parent in
      flat_map-map (λ s. s parent) (selection_parts schema) (map unlocated_selection xs)
      ∙ all of_selection unlocated_selection xs (λ k d within. h k d within parent)
      ∙ sym (ap (map unlocated_part) (flat_map-map (λ s. s parent) (selection_parts schema) xs))

  -- 2.5 Fields
  abbrev parts_in : Option (List (Selection S)) → Option (List (MetaType S C → List (Part S C)))
  parts_in = option_map (map (selection_parts schema))

  below_field : (parent : Option (MetaType S C)) (set : Option (List (Selection S)))
      → IfSome set (HoldsOfSet SelectionUnlocated)
      → Unlocated (parts_under schema parent (unwrap_or (parts_in (option_map (map unlocated_selection) set)) []))
      (parts_under schema parent (unwrap_or (parts_in set) []))
  below_field parent (Some xs) h = set_by parent xs h
  below_field None None h = refl
  below_field (Some parent) None h = refl

  same_has : (set : Option (List (Selection S)))
      → is_some (parts_in (option_map (map unlocated_selection) set)) ≡ is_some (parts_in set)
  same_has None = refl
  same_has (Some xs) = refl

  field_unlocated : (x : Placed (Field S)) → HoldsInField SelectionUnlocated x.item
      → SelectionUnlocated (selection.Field x)
  field_unlocated x h parent =
      let name = x.item.name.item in
      let declared = field_in parent name in
      let arguments = field_arguments declared in
      let has : Bool → Part S C =
      λ b. AField (record { name = name; place = origin; parent = parent; declared = declared; has_set = b }) in
      let given = given_unlocated x.span.start arguments x.item.arguments in
      let directives = directives_unlocated location.Field x.item.directives in
      let set = below_field (referred schema (field_type declared)) x.item.selection_set h in
      let given_there = given_parts schema x.span.start arguments (arguments_in x.item.arguments) in
      let inside = three _ _ _ given_there _ _ given directives set in
      ap (λ s. selection_parts schema s parent)
      (unlocated_selection_field x ∙ ap (λ f. selection.Field (unplaced f)) (unlocated_in_field x.item))
      ∙ parts_field schema _ parent
      ∙ (λ i. has (same_has x.item.selection_set i) ∷ inside i)
      ∙ sym (ap (map unlocated_part) (parts_field schema x parent))

  -- 2.8 Fragments
  spread_unlocated : (x : Placed (FragmentSpread S)) → SelectionUnlocated (selection.FragmentSpread x)
  spread_unlocated x parent =
      ap (λ s. selection_parts schema s parent) (unlocated_selection_spread x)
      ∙ parts_spread schema (without_place unlocated_spread x) parent
      ∙ ap (λ ps. ASpread (record { name = unlocated_name x.item.name; place = origin; parent = parent }) ∷ ps)
      (directives_unlocated location.FragmentSpread x.item.directives)
      ∙ sym (ap (map unlocated_part) (parts_spread schema x parent))

  -- 2.8.2 Inline Fragments
  abbrev conditions : Option (Placed Bytes) → List (Part S C)
  conditions name = map Condition (option_to_list name)

  conditions_unlocated : (name : Option (Placed Bytes))
      → Unlocated (conditions (option_map unlocated_name name)) (conditions name)
  conditions_unlocated None = refl
  conditions_unlocated (Some name) = refl

  same_inside : (parent : MetaType S C) (name : Option (Placed Bytes))
      → type_inside schema parent (option_map unlocated_name name) ≡ type_inside schema parent name
  same_inside parent None = refl
  same_inside parent (Some name) = refl

  inline_unlocated : (x : Placed (InlineFragment S)) → HoldsInInline SelectionUnlocated x.item
      → SelectionUnlocated (selection.InlineFragment x)
  inline_unlocated x h parent =
      let name = x.item.type_condition in
      let xs = x.item.selection_set in
      let directives = directives_unlocated location.InlineFragment x.item.directives in
      let set = ap (λ t. set_parts schema t (map unlocated_selection xs)) (same_inside parent name)
      ∙ set_by (type_inside schema parent name) xs h in
      let inside = three _ _ _ (conditions name) _ _ (conditions_unlocated name) directives set in
      ap (λ s. selection_parts schema s parent)
      (unlocated_selection_inline x ∙ ap (λ f. selection.InlineFragment (unplaced f)) (unlocated_in_inline x.item))
      ∙ parts_inline schema _ parent
      ∙ ap (λ ps. AnInline (record { condition = option_map unlocated_name name; place = origin; parent = parent }) ∷ ps)
      inside
      ∙ sym (ap (map unlocated_part) (parts_inline schema x parent))

  selection_unlocated : (x : Selection S) → SelectionUnlocated x
  selection_unlocated = selection_ind SelectionUnlocated field_unlocated spread_unlocated inline_unlocated

  set_unlocated : (parent : Option (MetaType S C)) (xs : List (Selection S))
      → Unlocated (set_parts schema parent (map unlocated_selection xs)) (set_parts schema parent xs)
  set_unlocated parent xs = set_by parent xs (λ k d within. selection_unlocated (get_or xs k d))

  -- 2.10 Variables
  abbrev default_parts : Option InputPlace → Option (Placed (InputValue S)) → List (Part S C)
  default_parts here default = flat_map (placed_parts schema here) (option_to_list default)

  default_unlocated : (here : Option InputPlace) (default : Option (Placed (InputValue S)))
      → Unlocated (default_parts here (option_map (without_place unlocated) default))
      (default_parts here default)
  default_unlocated here None = refl
  default_unlocated here (Some v) =
      each (placed_parts schema here) (without_place unlocated) (placed_unlocated here) (v ∷ [])

  -- what defines a variable
  abbrev unlocated_definer : Variable S → Variable S
  unlocated_definer v = (unlocated_name v.0, unlocated_variable v.1)

  variable_unlocated : (v : Variable S)
      → Unlocated (variable_parts schema (unlocated_definer v)) (variable_parts schema v)
  variable_unlocated v =
      let default = default_unlocated (Some (bare_place v.1.var_type.item)) v.1.default_value in
      ap (λ ps. VariableDefined (unlocated_variable_part (variable_part v)) ∷ ps)
      (two _ _ _ _ default (directives_unlocated location.VariableDefinition v.1.directives))

  variables_unlocated : (defined : Option (Placed (VariableDefinitions S)))
      → variables_in (option_map (without_place unlocated_variables) defined)
      ≡ map unlocated_definer (variables_in defined)
  variables_unlocated None = refl
  variables_unlocated (Some x) = refl

  -- 2.3 Operations
  pub operation_unlocated : (o : Operation S)
      → Unlocated (operation_parts schema (unlocated_operation o)) (operation_parts schema o)
  operation_unlocated o =
      let of_variable = variable_parts schema in
      let defined = variables_in o.variable_definitions in
      let variables = ap (flat_map of_variable) (variables_unlocated o.variable_definitions)
      ∙ each of_variable unlocated_definer variable_unlocated defined in
      let directives = directives_unlocated (location_of o.operation_type) o.directives in
      let set = set_unlocated (root_of schema o.operation_type) o.selection_set in
      three _ _ _ (flat_map of_variable defined) _ _ variables directives set

  -- 2.8 Fragments
  pub fragment_unlocated : (f : Fragment S)
      → Unlocated (fragment_parts schema (unlocated_fragment f)) (fragment_parts schema f)
  fragment_unlocated f =
      let directives = directives_unlocated location.FragmentDefinition f.directives in
      ap (λ ps. Condition (unlocated_name f.type_condition) ∷ ps)
      (two _ _ _ _ directives (set_unlocated (known schema f.type_condition.item) f.selection_set))

  -- 2.2 Document
  definition_unlocated : (x : Definition S)
      → Unlocated (definition_parts schema (unlocated_definition x)) (definition_parts schema x)
  definition_unlocated (definition.Operation o) = operation_unlocated o.item
  definition_unlocated (definition.Fragment f) = fragment_unlocated f.item

module _ {S C : Type 0} where
  pub document_unlocated : OccurrencesAreUnlocated S C
  unfolding occurrences
  document_unlocated schema = each (definition_parts schema) unlocated_definition (definition_unlocated schema)
